-- What the text of a policy means, and where it is at fault. Texts are bytes.
use Rattle.std.specs.List.{AllZip, flat_map, list_any}
use Rattle.std.specs.Option.{option_to_list}
use Rattle.std.specs.Prelude.{◌≡◌, ◌≢◌, ◌⊎◌, ◌+◌, ◌++◌, ◌∷◌, ℕ, All, Contains, List, [], MatchOption, None, Ok, Option, Some, bytes_eq, false, if◌then◌else◌, map, slice_get, string_bytes, take, true, unwrap_or}
use Rattle.std.specs.Str.{chars, trim}
use Rattle.std.specs.Str.Lines.{lines}
use Rattle.url.specs.Parts.{Parts}
use Rattle.urlpattern_canonical.specs.BaseUrls.{parsed_base, text_bytes}
use Rattle.urlpattern_canonical.specs.Canonical.{Reports}
use Rattle.urlpattern_compare.specs.CoveringTogether.{AreAscending}
use Rattle.urlpattern_compile.specs.Diagnoses.{AcceptsPatternOfText, IsWithinText, ShowsAll, ShowsGiven}
use Rattle.urlpattern_compile.specs.FromString.{IsPatternOfText, RejectsPatternOfText}
use Rattle.urlpattern_diagnosis.specs.declared.diagnosis.Diagnosis.{Diagnosis}
use Rattle.urlpattern_diagnosis.specs.declared.diagnosis.Subject.{Subject}
use Rattle.urlpattern_diagnosis.specs.declared.diagnosis.Subject.TheVariants as subjects
use Rattle.urlpattern_differences.specs.declared.rules.Effect.{Effect}
use Rattle.urlpattern_inputs.specs.declared.options.UrlPatternOptions.{UrlPatternOptions}
use Rattle.urlpattern_matcher.specs.declared.regexp.RegExp.{Ghosts as Engine}
use Rattle.urlpattern_pattern.specs.KeptParts.{KeepsPartsOfText}
use Rattle.urlpattern_pattern.specs.Patterns.{pattern_view}
use Rattle.urlpattern_pattern.specs.UrlPatterns.{UrlPattern}
use Rattle.urlpattern_policy.specs.declared.policy.UrlPolicy.{UrlPolicy}
use Rattle.urlpattern_policy_text.specs.declared.outcome.Outcome.{Outcome}
use Rattle.urlpattern_policy_text.specs.declared.outcome.Outcome.TheVariants as outcomes
use Rattle.urlpattern_policy_text.specs.declared.policy_fault.FaultReason.{FaultReason}
use Rattle.urlpattern_policy_text.specs.declared.policy_fault.FaultReason.TheVariants as reasons
use Rattle.urlpattern_policy_text.specs.declared.policy_fault.PolicyFault.{PolicyFault}
use Rattle.urlpattern_policy_text.specs.declared.policy_fault.PolicyTextError.{PolicyTextError}
use Rattle.urlpattern_policy_text.specs.declared.policy_fault.PolicyTextError.TheVariants as errors
use Rattle.urlpattern_policy_text.specs.declared.statement.WordFault.{WordFault}
use Rattle.urlpattern_policy_text.specs.declared.statement.WordFault.TheVariants as faults
use Rattle.urlpattern_policy_text.specs.Statements.{SettingView, StatementView, Base, Fault, Nothing, Rule, Says, after_word, base_of, column_of, options_of, sets_like, statement_of}
use Rattle.urlpattern_syntax.specs.Errors.{ErrorView, error_view}
use Rattle.urlpattern_syntax.specs.declared.parser.RegexSyntax.TheVariants.{Rust}

-- What the lines of a text say.
abbrev pub statements_in : (text : List ℕ) → List StatementView
statements_in text = map statement_of (lines text)

-- ---- patterns and base URLs

-- The options under which the patterns of rules are compiled.
abbrev pub rule_options : UrlPatternOptions
rule_options = record { regex_syntax = Rust; ignore_case = false }

-- The text is compiled to the pattern under the base URL, and the pattern keeps its parts.
abbrev pub IsCompiled : {E : Type 0} → Engine E → (base : Option (List ℕ)) → (text : List ℕ)
    → UrlPattern E → Type 0
IsCompiled engine base text pattern =
    IsPatternOfText engine (chars text) base rule_options (pattern_view pattern)
    × KeepsPartsOfText engine (chars text) base rule_options pattern

-- The text is rejected under the base URL, with the error.
abbrev pub RejectsRule : {E : Type 0} → Engine E → (base : Option (List ℕ)) → (text : List ℕ)
    → ErrorView → Type 0
RejectsRule engine base text error =
    RejectsPatternOfText engine (chars text) base rule_options error

-- The diagnosis is of this subject, and shows the whole text, or the place where the colon after a
-- scheme is missing or mistyped.
abbrev pub ShowsWhole : Subject → (text : List ℕ) → Diagnosis → Type 0
ShowsWhole subject text diagnosis =
    (diagnosis.subject ≡ subject) × (string_bytes diagnosis.text ≡ text) × ShowsAll diagnosis
    × IsWithinText diagnosis

-- What the diagnosis shows of a rejected pattern: where it is at fault; or, if an engine accepts
-- the pattern when it is compiled again, the whole.
abbrev pub ShowsRule : {E : Type 0} → Engine E → (base : Option (List ℕ)) → (text : List ℕ)
    → Diagnosis → Type 0
ShowsRule engine base text diagnosis =
    (ShowsGiven engine text base rule_options diagnosis × IsWithinText diagnosis)
    ⊎ (AcceptsPatternOfText engine (chars text) base rule_options
    × ShowsWhole subjects.Whole text diagnosis)

-- The text is rejected under the base URL, and the diagnosis shows why.
abbrev pub IsRejected : {E : Type 0} → Engine E → (base : Option (List ℕ)) → (text : List ℕ)
    → Diagnosis → Type 0
IsRejected engine base text diagnosis =
    RejectsRule engine base text (error_view diagnosis.error)
    × ShowsRule engine base text diagnosis

-- `url` parses the base URL, if there is one, to this URL.
abbrev pub IsParsedAs : (base : Option (List ℕ)) → (url : Option Parts) → Type 0
IsParsedAs base url = parsed_base base ≡ Ok url

-- `url` accepts the text.
abbrev pub IsUrl : (text : List ℕ) → Type 0
IsUrl text = (url : Option Parts) × IsParsedAs (Some text) url

-- `url` rejects the base URL with the error.
abbrev pub RejectsBase : (base : Option (List ℕ)) → ErrorView → Type 0
RejectsBase base error = Reports (parsed_base base) (text_bytes base) error

-- `url` rejects the base URL, and the diagnosis shows it.
abbrev pub IsRejectedBase : (base : Option (List ℕ)) → Diagnosis → Type 0
IsRejectedBase base diagnosis =
    RejectsBase base (error_view diagnosis.error)
    × ShowsWhole subjects.Base (unwrap_or base []) diagnosis

-- `base` is the text if `url` accepts it, or else None.
abbrev pub IsAcceptedBase : (text : List ℕ) → (base : Option (List ℕ)) → Type 0
IsAcceptedBase text (Some base) = (base ≡ text) × IsUrl text
IsAcceptedBase text None = (diagnosis : Diagnosis) × IsRejectedBase (Some text) diagnosis

-- `base` is the base URL of the patterns: the one that is set, unless `url` rejects it.
abbrev pub IsUsedBase : List StatementView → (base : Option (List ℕ)) → Type 0
IsUsedBase statements base =
    MatchOption (base_of statements) (base ≡ None) (λ text. IsAcceptedBase text base)

-- ---- lines at fault

-- The part of a line at fault.
abbrev pub faulty_part : (line : List ℕ) → WordFault → List ℕ
faulty_part line faults.UnknownWord = trim line
faulty_part line faults.MissingValue = []
faulty_part line faults.UnknownValue = after_word (trim line)
faulty_part line faults.UnclearValue = after_word (trim line)

-- The pattern of the statement, or the base URL that it is the first to set, has this text, and is
-- rejected.
abbrev pub HasRejected : {E : Type 0} → Engine E → (base : Option (List ℕ))
    → (before : List StatementView) → StatementView → (text : List ℕ) → Diagnosis → Type 0
HasRejected engine base before (Rule effect own) text diagnosis =
    (own ≡ text) × IsRejected engine base text diagnosis
HasRejected engine base before (Says (Base own)) text diagnosis =
    (own ≡ text) × (list_any (sets_like (Base own)) before ≡ false)
    × IsRejectedBase (Some text) diagnosis
HasRejected engine base before statement text diagnosis = ⊥

-- Where a diagnosis is of a fault in the text: at its beginning, if another text is shown.
abbrev pub place_in : (text : List ℕ) → Diagnosis → ℕ
place_in text diagnosis =
    if bytes_eq (string_bytes diagnosis.text) text then diagnosis.fault.span.start else 0

-- The line, which says `statement` after `before`, is at fault in this column, for this reason.
abbrev pub IsReason : {E : Type 0} → Engine E → (base : Option (List ℕ))
    → (before : List StatementView) → (line : List ℕ) → StatementView
    → (column : ℕ) → FaultReason → Type 0
IsReason engine base before line statement column (reasons.Word fault) =
    (statement ≡ Fault fault) × (column ≡ column_of line (faulty_part line fault) 0)
IsReason engine base before line statement column reasons.Repeated =
    ((setting : SettingView) × (statement ≡ Says setting)
    × (list_any (sets_like setting) before ≡ true))
    × (column ≡ column_of line (trim line) 0)
IsReason engine base before line statement column (reasons.Rejected diagnosis) =
    (text : List ℕ) × HasRejected engine base before statement text diagnosis
    × (column ≡ column_of line text (place_in text diagnosis))

-- `url` accepts the setting, if it is a base URL.
abbrev pub IsFineSetting : SettingView → Type 0
IsFineSetting (Base text) = IsUrl text
IsFineSetting setting = Unit {0}

-- A line that says `statement` after `before` is not at fault.
abbrev pub IsFine : {E : Type 0} → Engine E → (base : Option (List ℕ))
    → (before : List StatementView) → StatementView → Type 0
IsFine engine base before Nothing = Unit {0}
IsFine {E} engine base before (Rule effect text) =
    (pattern : UrlPattern E) × IsCompiled engine base text pattern
IsFine engine base before (Says setting) =
    (list_any (sets_like setting) before ≡ false) × IsFineSetting setting
IsFine engine base before (Fault fault) = ⊥

-- The fault is in the line at the index of the text.
pub record IsFaultAt {E : Type 0} (engine : Engine E) (text : List ℕ) (base : Option (List ℕ))
    (index : ℕ) (fault : PolicyFault) : Type 0 where
  pub line : List ℕ
  pub there : slice_get (lines text) index ≡ Some line
  pub number : fault.line ≡ index + 1
  pub reason : IsReason engine base (take index (statements_in text)) line (statement_of line)
      fault.column fault.reason

-- The line at the index of the text is not at fault, if there is one.
abbrev pub IsFineAt : {E : Type 0} → Engine E → (text : List ℕ) → (base : Option (List ℕ))
    → (index : ℕ) → Type 0
IsFineAt engine text base index =
    (line : List ℕ) → slice_get (lines text) index ≡ Some line
    → IsFine engine base (take index (statements_in text)) (statement_of line)

-- A fault of the list is in the line at the index.
abbrev pub HasFaultAt : List PolicyFault → (index : ℕ) → Type 0
HasFaultAt found index =
    (fault : PolicyFault) × Contains found fault × (fault.line ≡ index + 1)

-- The faults are all that the text has, in the order of its lines, and at least one.
pub record AreFaultsOf {E : Type 0} (engine : Engine E) (text : List ℕ) (found : List PolicyFault) :
    Type 0 where
  pub base : Option (List ℕ)
  pub is_used : IsUsedBase (statements_in text) base
  pub some : found ≢ []
  pub in_order : AreAscending (map (λ fault. fault.line) found)
  pub each : All (λ fault. (index : ℕ) × IsFaultAt engine text base index fault) found
  pub all : (index : ℕ) → IsFineAt engine text base index ⊎ HasFaultAt found index

-- Why a text is no policy.
abbrev pub IsRefusal : {E : Type 0} → Engine E → (text : List ℕ) → PolicyTextError → Type 0
IsRefusal engine text (errors.Faults found) = AreFaultsOf engine text found.items
IsRefusal engine text errors.OutOfMemory = Unit {0}

-- ---- policies

-- The rule that a statement makes, if it makes one.
abbrev pub rule_in : StatementView → Option (Effect × List ℕ)
rule_in (Rule effect text) = Some (effect, text)
rule_in statement = None

-- The rules that statements make, in order.
abbrev pub rules_in : List StatementView → List (Effect × List ℕ)
rules_in statements = flat_map (λ statement. option_to_list (rule_in statement)) statements

-- The rule of a policy has the effect and the pattern that are asked for.
abbrev pub IsRule : {E : Type 0} → Engine E → (base : Option (List ℕ)) → (asked : Effect × List ℕ)
    → (rule : UrlPattern E × Effect) → Type 0
IsRule engine base asked rule =
    (rule.1 ≡ asked.0) × IsCompiled engine base asked.1 rule.0

-- The text means the policy: no line is at fault, the rules are those of its lines, in order, and
-- the options are those that are set.
pub record IsPolicyOf {E : Type 0} (engine : Engine E) (text : List ℕ) (policy : UrlPolicy E) :
    Type 0 where
  pub base : Option (List ℕ)
  pub is_used : IsUsedBase (statements_in text) base
  pub fine : (index : ℕ) → IsFineAt engine text base index
  pub rules : AllZip (IsRule engine base) (rules_in (statements_in text)) policy.rules
  pub options : policy.options ≡ options_of (statements_in text)

-- ---- steps

-- What a line adds that says `statement` after `before`: its rule, or its fault.
abbrev pub IsOutcomeOf : {E : Type 0} → Engine E → (base : Option (List ℕ))
    → (before : List StatementView) → (line : List ℕ) → StatementView → Outcome E → Type 0
IsOutcomeOf engine base before line statement outcomes.Nothing =
    IsFine engine base before statement × (rule_in statement ≡ None)
IsOutcomeOf engine base before line statement (outcomes.Rule effect pattern) =
    (text : List ℕ) × (statement ≡ Rule effect text) × IsCompiled engine base text pattern
IsOutcomeOf engine base before line statement (outcomes.Fault column reason) =
    IsReason engine base before line statement column reason

-- What a line adds after lines that say `before`.
abbrev pub IsOutcome : {E : Type 0} → Engine E → (base : Option (List ℕ))
    → (before : List StatementView) → (line : List ℕ) → Outcome E → Type 0
IsOutcome engine base before line outcome =
    IsOutcomeOf engine base before line (statement_of line) outcome

-- What the line at the index adds, by what each line says.
abbrev pub IsOutcomeAt : {E : Type 0} → Engine E → (base : Option (List ℕ))
    → (lines : List (List ℕ)) → List StatementView → (index : ℕ) → Outcome E → Type 0
IsOutcomeAt engine base lines statements index outcome =
    (line : List ℕ) × (slice_get lines index ≡ Some line)
    × IsOutcome engine base (take index statements) line outcome

-- What the line at the index adds is appended to the rules or to the faults.
abbrev pub AddsOutcome : {E : Type 0} → (index : ℕ) → Outcome E
    → (old new : List (UrlPattern E × Effect)) → (old_faults new_faults : List PolicyFault)
    → Type 0
AddsOutcome index outcomes.Nothing old new old_faults new_faults =
    (new ≡ old) × (new_faults ≡ old_faults)
AddsOutcome index (outcomes.Rule effect pattern) old new old_faults new_faults =
    (new ≡ old ++ (pattern, effect) ∷ []) × (new_faults ≡ old_faults)
AddsOutcome index (outcomes.Fault column reason) old new old_faults new_faults =
    (new ≡ old)
    × (new_faults
    ≡ old_faults ++ record { line = index + 1; column = column; reason = reason } ∷ [])
