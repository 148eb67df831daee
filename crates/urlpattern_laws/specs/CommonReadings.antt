-- Texts that some patterns match and others do not, by the parts of the patterns.
use Rattle.std.specs.Prelude.{◌≡◌, ◌++◌, ◌∷◌, ℕ, All, Contains, List, Option, String, map}
use Rattle.std.specs.declared.alloc.Global.{Global}
use Rattle.urlpattern_init.specs.UrlTexts.{EachIsLine}
use Rattle.urlpattern_meaning.specs.PartMeaning.{Captures}
use Rattle.urlpattern_pattern.specs.{Match.AreMatched, Patterns.PatternView}
use Rattle.urlpattern_laws.specs.PartReadings.{AreItsParts, SameAreMatched}
use Rattle.urlpattern_compare.specs.CommonTexts.{IsCommonAnswer, parts_of, string_at}
use Rattle.urlpattern_compare.specs.CoveringTogether.{AreCovering}
use Rattle.urlpattern_compare.specs.declared.candidates.Limits.{Limits}
use Rattle.urlpattern_compare.specs.declared.common_texts.Common.TheVariants as answers
use Rattle.urlpattern_compare.specs.declared.common_texts.PatternAutomata.{PatternAutomata}
use Rattle.urlpattern_compare.specs.declared.pattern_parts.PatternParts.{PatternParts}
use Rattle.urlpattern_components.specs.declared.eight.ComponentName.{ComponentName}
use Rattle.urlpattern_components.specs.declared.eight.Eight.{Eight}
use Rattle.urlpattern_components.specs.Eight.{Texts, at}

-- A pattern and its parts.
pub record PatternOfParts (E : Type 0) : Type 0 where
  pub pattern : PatternView E
  pub parts : PatternParts

-- The parts say what each of the patterns matches, and `SameAreMatched` holds of any two patterns:
-- components with equal parts match the same lines.
pub record AreTheirParts {E : Type 0} (answer : E → List ℕ → Option Captures)
    (patterns : List (PatternOfParts E)) : Type 0 where
  pub own : All (λ it. AreItsParts answer it.pattern it.parts) patterns
  pub same : All
      (λ it. All
      (λ other. SameAreMatched answer it.pattern other.pattern it.parts other.parts) patterns)
      patterns

-- The automata are those of the patterns' parts, in order.
abbrev pub HaveAutomata : {E : Type 0} → List (PatternOfParts E) → List PatternAutomata → Type 0
HaveAutomata patterns automata = map (λ it. it.parts) patterns ≡ parts_of automata

-- Each of the patterns matches the eight texts.
abbrev pub AllMatch : {E : Type 0} → (answer : E → List ℕ → Option Captures)
    → List (PatternOfParts E) → Texts → Type 0
AllMatch answer patterns texts = All (λ it. AreMatched answer it.pattern texts) patterns

-- None of the patterns matches the eight texts.
abbrev pub NoneMatches : {E : Type 0} → (answer : E → List ℕ → Option Captures)
    → List (PatternOfParts E) → Texts → Type 0
NoneMatches answer patterns texts = All (λ it. ¬ AreMatched answer it.pattern texts) patterns

-- A pattern of the list matches the eight texts.
abbrev pub OneMatches : {E : Type 0} → (answer : E → List ℕ → Option Captures)
    → List (PatternOfParts E) → Texts → Type 0
OneMatches {E} answer patterns texts =
    (it : PatternOfParts E) × Contains patterns it × AreMatched answer it.pattern texts

-- Each pattern of `all` matches the texts that are found by the parts, and no pattern of `none`
-- does.
abbrev pub FoundAreMatched : {E : Type 0} → (answer : E → List ℕ → Option Captures) → Type 0
FoundAreMatched {E} answer =
    (all none : List (PatternOfParts E)) (all_of none_of : List PatternAutomata) (limits : Limits)
    (found : Eight (String Global)) →
    AreTheirParts answer (all ++ none) → HaveAutomata all all_of → HaveAutomata none none_of →
    IsCommonAnswer all_of none_of limits (answers.Texts found) →
    (texts : Texts) → ((name : ComponentName) → at texts name ≡ string_at found name) →
    AllMatch answer all texts × NoneMatches answer none texts

-- Where no texts are found by the parts, a pattern of `none` matches any eight lines that each
-- pattern of `all` matches.
abbrev pub NothingIsLeft : {E : Type 0} → (answer : E → List ℕ → Option Captures) → Type 0
NothingIsLeft {E} answer =
    (all none : List (PatternOfParts E)) (all_of none_of : List PatternAutomata)
    (limits : Limits) →
    AreTheirParts answer (all ++ none) → HaveAutomata all all_of → HaveAutomata none none_of →
    IsCommonAnswer all_of none_of limits answers.Nothing →
    (texts : Texts) → EachIsLine texts → AllMatch answer all texts → OneMatches answer none texts

-- Of patterns that cover `asked` together, by the parts, one matches any eight lines that `asked`
-- matches.
abbrev pub CoveringMatch : {E : Type 0} → (answer : E → List ℕ → Option Captures) → Type 0
CoveringMatch {E} answer =
    (patterns : List (PatternOfParts E)) (asked : PatternOfParts E)
    (automata : List PatternAutomata) (asked_automata : PatternAutomata) →
    AreTheirParts answer (asked ∷ patterns) → HaveAutomata patterns automata →
    asked.parts ≡ asked_automata.parts → AreCovering automata asked_automata →
    (texts : Texts) → EachIsLine texts → AreMatched answer asked.pattern texts
    → OneMatches answer patterns texts
