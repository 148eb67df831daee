-- The text of a policy. Texts are bytes.
use Rattle.std.specs.List.{AllZip, flat_map, list_any}
use Rattle.std.specs.Prelude.{◌≡◌, ◌==◌, ◌++◌, ◌&&◌, ℕ, Bool, Contains, List, [], MatchBool, None, Option, Some, bytes_eq, codes, false, not, option_map, slice_get, slice_index, true, if◌then◌else◌}
use Rattle.urlpattern_differences.specs.declared.rules.Effect.{Effect}
use Rattle.urlpattern_differences.specs.declared.rules.Effect.TheVariants as effects
use Rattle.urlpattern_inputs.specs.declared.options.UrlPatternOptions.{UrlPatternOptions}
use Rattle.urlpattern_matcher.specs.declared.regexp.RegExp.{Ghosts as Engine}
use Rattle.urlpattern_pattern.specs.ReadBack.{IsConstructorString, options_of}
use Rattle.urlpattern_pattern.specs.UrlPatterns.{UrlPattern}
use Rattle.urlpattern_policy.specs.declared.policy.PolicyOptions.{PolicyOptions}
use Rattle.urlpattern_policy.specs.declared.policy.UrlPolicy.{UrlPolicy}
use Rattle.urlpattern_policy_text.specs.Statements.{Rule, StatementView, statement_of}
use Rattle.urlpattern_syntax.specs.declared.parser.RegexSyntax.{RegexSyntax}
use Rattle.urlpattern_syntax.specs.declared.parser.RegexSyntax.TheVariants.{EcmaScript, Rust}

-- The line for what is decided where no rule matches, unless that is to deny.
abbrev pub default_line : Effect → List ℕ
default_line effects.Allow = codes "default allow\n"
default_line effects.Deny = []

-- The line for whether URLs are brought to their plain spelling, unless they are.
abbrev pub spelling_line : Bool → List ℕ
spelling_line plain = if plain then [] else codes "spelling exact\n"

-- The line for whether credentials are denied, if they are.
abbrev pub credentials_line : Bool → List ℕ
credentials_line denied = if denied then codes "credentials deny\n" else []

-- The lines for the options that are not as in a new policy.
abbrev pub settings_text : PolicyOptions → List ℕ
settings_text options =
    (default_line options.default ++ spelling_line options.plain_spelling)
    ++ credentials_line options.denies_credentials

-- The word of a rule with this effect, and a space.
abbrev pub rule_word : Effect → List ℕ
rule_word effects.Allow = codes "allow "
rule_word effects.Deny = codes "deny "

-- The line of a rule, without its end. `string` is the constructor string of its pattern.
abbrev pub rule_text : Effect → (string : List ℕ) → List ℕ
rule_text effect string = rule_word effect ++ string

-- Whether two effects are one.
abbrev pub is_same : (effect other : Effect) → Bool
is_same effects.Allow effects.Allow = true
is_same effects.Deny effects.Deny = true
is_same effect other = false

-- Whether a statement is the rule with this pattern.
abbrev pub is_rule : Effect → (string : List ℕ) → StatementView → Bool
is_rule effect string (Rule own text) = is_same own effect && bytes_eq text string
is_rule effect string statement = false

-- Whether the text is one line, which says the rule with this pattern.
abbrev pub says_rule : Effect → (string text : List ℕ) → Bool
says_rule effect string text =
    not (list_any (λ byte. byte == slice_index (codes "\n") 0) text)
    && is_rule effect string (statement_of text)

-- The line of the rule whose pattern has this constructor string. None: there is no such string, or
-- the line does not read back as the rule.
abbrev pub line_of : Effect → (string : Option (List ℕ)) → Option (List ℕ)
line_of effect None = None
line_of effect (Some string) =
    if says_rule effect string (rule_text effect string)
    then Some (rule_text effect string ++ codes "\n") else None

-- Whether the syntax is that of Rust.
abbrev pub is_rust : RegexSyntax → Bool
is_rust Rust = true
is_rust EcmaScript = false

-- Whether the options are those of the rules of texts.
abbrev pub are_rule_options : Option UrlPatternOptions → Bool
are_rule_options None = false
are_rule_options (Some options) = is_rust options.regex_syntax && not options.ignore_case

-- Whether the pattern was compiled under the options of the rules of texts.
abbrev pub has_rule_options : {E : Type 0} → UrlPattern E → Bool
has_rule_options pattern = are_rule_options (option_map options_of pattern.parts)

-- The pattern has this constructor string under the options of the rules of texts. None: it has
-- none, or other options.
abbrev pub IsRuleString : {E : Type 0} → Engine E → UrlPattern E → Option (List ℕ) → Type 0
IsRuleString engine pattern string =
    MatchBool (has_rule_options pattern) (IsConstructorString engine pattern string)
    (string ≡ None)

-- The rule has this line. None: it has none.
abbrev pub IsLineOf : {E : Type 0} → Engine E → (rule : UrlPattern E × Effect)
    → (line : Option (List ℕ)) → Type 0
IsLineOf engine rule line =
    (string : Option (List ℕ)) × IsRuleString engine rule.0 string
    × (line ≡ line_of rule.1 string)

-- The text has the lines of the policy's options, and then those of its rules, in order. None: a
-- rule has no line.
abbrev pub IsTextOf : {E : Type 0} → Engine E → UrlPolicy E → (text : Option (List ℕ)) → Type 0
IsTextOf {E} engine policy None =
    (rule : UrlPattern E × Effect) × Contains policy.rules rule × IsLineOf engine rule None
IsTextOf engine policy (Some text) =
    (lines : List (List ℕ))
    × AllZip (λ rule line. IsLineOf engine rule (Some line)) policy.rules lines
    × (text ≡ settings_text policy.options ++ flat_map (λ line. line) lines)

-- The line is that of the rule at the index.
abbrev pub IsLineAt : {E : Type 0} → Engine E → List (UrlPattern E × Effect) → (index : ℕ)
    → (line : Option (List ℕ)) → Type 0
IsLineAt {E} engine rules index line =
    (rule : UrlPattern E × Effect) × (slice_get rules index ≡ Some rule)
    × IsLineOf engine rule line
