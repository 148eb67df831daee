-- The pattern of a condition: what it is compiled to, and why it is rejected.
use Rattle.std.specs.Prelude.{◌≡◌, ◌⊎◌, ℕ, false, List, [], ◌∷◌, None, Option, Some, Result, Ok, Err, map, option_map, string_bytes, unwrap_or}
use Rattle.std.specs.Str.{chars}
use Rattle.urlpattern_canonical.specs.BaseUrls.{parsed_base, text_bytes}
use Rattle.urlpattern_canonical.specs.Canonical.{Reports}
use Rattle.urlpattern_compare.specs.declared.pattern_parts.PatternParts.{PatternParts}
use Rattle.urlpattern_compile.specs.Compiled.{IsPatternOfInit, RejectsInit}
use Rattle.urlpattern_compile.specs.Diagnoses.{HasErrorOf, IsWithinText, ShowsAll, ShowsGiven, ShowsInit}
use Rattle.urlpattern_compile.specs.FromString.{IsPatternOfText, RejectsPatternOfText}
use Rattle.urlpattern_components.specs.Eight.{at, components, each}
use Rattle.urlpattern_components.specs.declared.eight.ComponentName.{ComponentName}
use Rattle.urlpattern_components.specs.declared.eight.ComponentName.TheVariants.{Hostname, Pathname}
use Rattle.urlpattern_diagnosis.specs.declared.diagnosis.Diagnosis.{Diagnosis}
use Rattle.urlpattern_diagnosis.specs.declared.diagnosis.Subject.TheVariants as subjects
use Rattle.urlpattern_init.specs.Inheritance.{values_view}
use Rattle.urlpattern_init.specs.declared.init.UrlPatternInit.{UrlPatternInit}
use Rattle.urlpattern_inputs.specs.InputValues.{InitView, InputView, of_init, of_text}
use Rattle.urlpattern_inputs.specs.declared.options.UrlPatternOptions.{UrlPatternOptions}
use Rattle.urlpattern_matcher.specs.declared.regexp.RegExp.{Ghosts as Engine}
use Rattle.urlpattern_pattern.specs.KeptParts.{KeepsPartsOf, KeepsPartsOfText}
use Rattle.urlpattern_pattern.specs.Patterns.{pattern_view}
use Rattle.urlpattern_pattern.specs.UrlPatterns.{UrlPattern}
use Rattle.urlpattern_route_rules.specs.declared.fault.PatternFault.{PatternFault}
use Rattle.urlpattern_route_rules.specs.declared.fault.PatternFault.TheVariants as faults
use Rattle.urlpattern_syntax.specs.declared.parser.Part.{Part}
use Rattle.urlpattern_syntax.specs.declared.parser.PartType.{PartType}
use Rattle.urlpattern_syntax.specs.declared.parser.PartType.TheVariants.{FixedText, FullWildcard, Regexp, SegmentWildcard}
use Rattle.urlpattern_syntax.specs.declared.parser.RegexSyntax.{RegexSyntax}

-- The options of a browser, of a pattern that is given without any.
abbrev pub no_options : UrlPatternOptions
no_options = record { regex_syntax = RegexSyntax.EcmaScript; ignore_case = false }

-- ---- what is given

-- The base URL of an init: its own, or else the URL of the script.
abbrev pub base_of : (script : List ℕ) → InitView → Option (List ℕ)
base_of script given = Some (unwrap_or given.base_url script)

-- `init` has the texts that are given, and their base URL.
pub record IsInitGiven (script : List ℕ) (given : InitView) (init : UrlPatternInit) : Type 0 where
  pub has_texts : values_view init ≡ each (λ name. option_map chars (at given.texts name))
  pub has_base : parsed_base (base_of script given) ≡ Ok init.base_url

-- What is given is compiled to `pattern`, which keeps the parts that its texts are parsed to. The
-- URL of the script is the base URL of a text.
abbrev pub IsPatternGiven : {E : Type 0} → Engine E → (script : List ℕ) → InputView → UrlPattern E
    → Type 0
IsPatternGiven engine script (of_text text) pattern =
    IsPatternOfText engine (chars text) (Some script) no_options (pattern_view pattern)
    × KeepsPartsOfText engine (chars text) (Some script) no_options pattern
IsPatternGiven engine script (of_init given) pattern =
    (init : UrlPatternInit) × IsInitGiven script given init
    × IsPatternOfInit engine init no_options (pattern_view pattern)
    × KeepsPartsOf engine init no_options pattern

-- ---- what is rejected

-- `url` rejects the base URL with the error of the diagnosis, which shows the base URL.
abbrev pub IsBaseDiagnosis : (base : Option (List ℕ)) → Diagnosis → Type 0
IsBaseDiagnosis base diagnosis =
    HasErrorOf (Reports (parsed_base base) (text_bytes base)) diagnosis
    × (diagnosis.subject ≡ subjects.Base)
    × (string_bytes diagnosis.text ≡ unwrap_or base [])
    × ShowsAll diagnosis

-- The init is the one that is given, or the diagnosis is that of its base URL.
abbrev pub GivesInit : (script : List ℕ) → InitView → Result UrlPatternInit Diagnosis → Type 0
GivesInit script given (Ok init) = IsInitGiven script given init
GivesInit script given (Err diagnosis) =
    IsBaseDiagnosis (base_of script given) diagnosis × IsWithinText diagnosis

-- What is given is rejected with the error of the diagnosis, which shows the fault in its text.
abbrev pub IsDiagnosisOf : {E : Type 0} → Engine E → (script : List ℕ) → InputView → Diagnosis
    → Type 0
IsDiagnosisOf engine script (of_text text) diagnosis =
    HasErrorOf (RejectsPatternOfText engine (chars text) (Some script) no_options) diagnosis
    × ShowsGiven engine text (Some script) no_options diagnosis
IsDiagnosisOf engine script (of_init given) diagnosis =
    IsBaseDiagnosis (base_of script given) diagnosis
    ⊎ ((init : UrlPatternInit) × IsInitGiven script given init
    × HasErrorOf (RejectsInit engine init no_options) diagnosis
    × ShowsInit engine init no_options diagnosis)

-- ---- what no condition may have

-- Why no condition may have a name in the component. None: a condition may have one.
abbrev pub name_fault : ComponentName → Option PatternFault
name_fault Hostname = None
name_fault Pathname = None
name_fault name = Some (faults.Name name)

-- Why no condition may have such a part in the component. None: a condition may have it.
abbrev pub kind_fault : ComponentName → PartType → Option PatternFault
kind_fault name Regexp = Some (faults.CustomExpression name)
kind_fault name SegmentWildcard = name_fault name
kind_fault name FixedText = None
kind_fault name FullWildcard = None

abbrev pub part_fault : ComponentName → Part → Option PatternFault
part_fault name part = kind_fault name part.kind

-- The first value of a list that is there.
abbrev pub first_some : {A : Type 0} → List (Option A) → Option A
first_some [] = None
first_some (None ∷ rest) = first_some rest
first_some (Some value ∷ rest) = Some value

-- The fault of the first part of the component that no condition may have.
abbrev pub component_fault : ComponentName → List Part → Option PatternFault
component_fault name parts = first_some (map (λ part. part_fault name part) parts)

-- The fault of the first part that no condition may have, in the order of the components.
abbrev pub pattern_fault : PatternParts → Option PatternFault
pattern_fault parts =
    first_some (map (λ name. component_fault name (at parts.components name).parts.items)
    components)

-- The fault of a pattern that has parts. None: a condition may have the pattern.
abbrev pub HasFault : {E : Type 0} → UrlPattern E → Option PatternFault → Type 0
HasFault pattern fault = option_map pattern_fault pattern.parts ≡ Some fault

-- The pattern itself, if a condition may have it, or else its fault.
abbrev pub Allows : {E : Type 0} → UrlPattern E → Result (UrlPattern E) PatternFault → Type 0
Allows pattern (Ok same) = (same ≡ pattern) × HasFault pattern None
Allows pattern (Err fault) = HasFault pattern (Some fault)

-- ---- the pattern of a condition

-- What is given is compiled to a pattern that a condition may have. Or there is this fault: what is
-- given is rejected, or compiled to a pattern that no condition may have.
abbrev pub CompilesPattern : {E : Type 0} → Engine E → (script : List ℕ) → InputView
    → Result (UrlPattern E) PatternFault → Type 0
CompilesPattern engine script given (Ok pattern) =
    IsPatternGiven engine script given pattern × HasFault pattern None
CompilesPattern {E} engine script given (Err fault) =
    ((diagnosis : Diagnosis) × (fault ≡ faults.Rejected diagnosis)
    × IsDiagnosisOf engine script given diagnosis × IsWithinText diagnosis)
    ⊎ ((pattern : UrlPattern E) × IsPatternGiven engine script given pattern
    × HasFault pattern (Some fault))
