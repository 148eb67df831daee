-- The rules of a table, each of which has a pattern and a value, and the faults of its lines. Texts
-- are bytes. `ignores` says whether patterns ignore case, and `base` is the text of a base URL.
use Rattle.std.specs.List.{AllZip, filter_map}
use Rattle.std.specs.Prelude.{◌≡◌, ◌⊎◌, ◌++◌, ◌∷◌, ℕ, Bool, Err, List, None, Ok, Option, Result, Some, []}
use Rattle.std.specs.Str.{chars}
use Rattle.urlpat_matching.specs.PatternWords.{IsPatternOf, KeepsPartsOfWord, RejectsPatternOf, pattern_options}
use Rattle.urlpat_matching.specs.Tables.{EntryView}
use Rattle.urlpat_tables.specs.declared.table_fault.FaultReason.TheVariants as reasons
use Rattle.urlpat_tables.specs.declared.table_fault.TableFault.{TableFault}
use Rattle.urlpattern.specs.UrlPattern.{UrlPattern}
use Rattle.urlpattern_compile.specs.Diagnoses.{AcceptsPatternOfText, IsWithinText, ShowsGiven}
use Rattle.urlpattern_diagnosis.specs.declared.diagnosis.Diagnosis.{Diagnosis}
use Rattle.urlpattern_diagnosis.specs.declared.diagnosis.Subject.TheVariants as subjects
use Rattle.urlpattern_engine.specs.PatternRegexps.{pattern_engine}
use Rattle.urlpattern_engine.specs.declared.pattern_regexp.PatternRegexp.{PatternRegexp}
use Rattle.urlpattern_pattern.specs.Patterns.{pattern_view}
use Rattle.urlpattern_policy_text.specs.PolicyTexts.{ShowsWhole, place_in}
use Rattle.urlpattern_policy_text.specs.Statements.{column_of}
use Rattle.urlpattern_syntax.specs.Errors.{error_view}

-- ---- a pattern in a line

-- The text is compiled to the pattern, which keeps its parts.
abbrev pub IsCompiledTo : (ignores : Bool) → (base : Option (List ℕ)) → (text : List ℕ)
    → UrlPattern PatternRegexp → Type 0
IsCompiledTo ignores base text pattern =
    IsPatternOf ignores text base (pattern_view pattern)
    × KeepsPartsOfWord ignores text base pattern

-- What the diagnosis of a rejected text shows: where the text is at fault; or, if an engine accepts
-- it when it is compiled again, the whole.
abbrev pub ShowsFault : (ignores : Bool) → (base : Option (List ℕ)) → (text : List ℕ) → Diagnosis
    → Type 0
ShowsFault ignores base text diagnosis =
    (ShowsGiven pattern_engine text base (pattern_options ignores) diagnosis
    × IsWithinText diagnosis)
    ⊎ (AcceptsPatternOfText pattern_engine (chars text) base (pattern_options ignores)
    × ShowsWhole subjects.Whole text diagnosis)

-- The text is rejected, and the diagnosis shows why.
abbrev pub IsDiagnosed : (ignores : Bool) → (base : Option (List ℕ)) → (text : List ℕ) → Diagnosis
    → Type 0
IsDiagnosed ignores base text diagnosis =
    RejectsPatternOf ignores text base (error_view diagnosis.error)
    × ShowsFault ignores base text diagnosis

-- A text in the line of the entry is rejected with this fault. `rest` is what the line has from the
-- text on.
abbrev pub IsRejectedCell : (ignores : Bool) → (base : Option (List ℕ)) → EntryView
    → (rest text : List ℕ) → TableFault → Type 0
IsRejectedCell ignores base entry rest text fault =
    (diagnosis : Diagnosis) × IsDiagnosed ignores base text diagnosis
    × (fault ≡ record {
      line = entry.number;
      column = column_of entry.line rest (place_in text diagnosis);
      reason = reasons.Rejected diagnosis;
    })

-- ---- rules

-- A rule, a pattern with its value, or the fault of a line.
abbrev pub Reading : (T : Type 0) → Type 0
Reading T = Result (UrlPattern PatternRegexp × T) TableFault

-- The rule that was read, if the line is not at fault.
abbrev pub rule_in : {T : Type 0} → Reading T → Option (UrlPattern PatternRegexp × T)
rule_in (Ok rule) = Some rule
rule_in (Err fault) = None

-- The fault of the line, if there is one.
abbrev pub fault_in : {T : Type 0} → Reading T → Option TableFault
fault_in (Ok rule) = None
fault_in (Err fault) = Some fault

-- The entry is read as a rule, by `Reads`, or its line is at fault, by `Faults`.
abbrev pub IsReading : {T : Type 0} → (Reads : EntryView → UrlPattern PatternRegexp → T → Type 0)
    → (Faults : EntryView → TableFault → Type 0) → EntryView → Reading T → Type 0
IsReading Reads Faults entry (Ok rule) = Reads entry rule.0 rule.1
IsReading Reads Faults entry (Err fault) = Faults entry fault

-- Each entry is read as a rule, or its line is at fault; the rules and the faults are in the order
-- of the entries.
abbrev pub AreRead : {T : Type 0} → (Reads : EntryView → UrlPattern PatternRegexp → T → Type 0)
    → (Faults : EntryView → TableFault → Type 0) → List EntryView
    → (rules : List (UrlPattern PatternRegexp × T)) → (faults : List TableFault) → Type 0
AreRead {T} Reads Faults entries rules faults =
    (all : List (Reading T)) × AllZip (IsReading Reads Faults) entries all
    × (rules ≡ filter_map rule_in all) × (faults ≡ filter_map fault_in all)

-- Each entry is read as a rule, in order.
abbrev pub AreRulesOf : {T : Type 0} → (Reads : EntryView → UrlPattern PatternRegexp → T → Type 0)
    → List EntryView → (rules : List (UrlPattern PatternRegexp × T)) → Type 0
AreRulesOf Reads entries rules =
    AllZip (λ entry rule. Reads entry rule.0 rule.1) entries rules

-- ---- steps

-- The rule or the fault is appended.
abbrev pub AddsReading : {T : Type 0} → Reading T
    → (old : List (UrlPattern PatternRegexp × T)) → (old_faults : List TableFault)
    → (new : List (UrlPattern PatternRegexp × T)) → (new_faults : List TableFault) → Type 0
AddsReading (Ok rule) old old_faults new new_faults =
    (new ≡ old ++ rule ∷ []) × (new_faults ≡ old_faults)
AddsReading (Err fault) old old_faults new new_faults =
    (new ≡ old) × (new_faults ≡ old_faults ++ fault ∷ [])
