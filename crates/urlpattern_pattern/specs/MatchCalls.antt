-- The captures of a match: of the looks at the eight texts, and of the components.
use Rattle.std.specs.Prelude.{◌≡◌, ℕ, List, Option, Some, zip}
use Rattle.urlpattern_components.specs.declared.eight.ComponentName.{ComponentName}
use Rattle.urlpattern_components.specs.declared.eight.Eight.{Eight}
use Rattle.urlpattern_matches.specs.declared.captures.GroupCaptures.{GroupCaptures}
use Rattle.urlpattern_matches.specs.GroupTexts.{captures_of}
use Rattle.urlpattern_matches.specs.ResultViews.{IsResultOf, ResultView}
use Rattle.urlpattern_matcher.specs.Looks.{look_result, NeedsEngine}
use Rattle.urlpattern_matcher.specs.declared.matcher.look.Look.{Look}
use Rattle.urlpattern_meaning.specs.{Matching.Returns, Matching.CallsEngine, PartMeaning.Captures}
use Rattle.urlpattern_pattern.specs.Match.{AreResults}
use Rattle.urlpattern_pattern.specs.Patterns.{PatternView}
use Rattle.urlpattern_components.specs.Eight.{Texts, at}

-- `looks` are what the matchers of the pattern see in their texts before an engine is called: the
-- result of each look is what its matcher returns.
abbrev pub AreLooks : {E : Type 0} → (answer : E → List ℕ → Option Captures) → PatternView E → Texts
    → Eight (Look E) → Type 0
AreLooks answer pattern texts looks =
    (name : ComponentName)
    → Returns answer (pattern name).matcher (at texts name)
    (look_result answer (Some (at looks name)))

-- Where one of `looks`, what the matchers see in their texts before an engine is called, asks for
-- an engine, the component's matcher calls one for its text.
abbrev pub CallWithCause : {E : Type 0} → PatternView E → Texts → Eight (Look E) → Type 0
CallWithCause pattern texts looks =
    (name : ComponentName) → NeedsEngine (at looks name)
    → CallsEngine (pattern name).matcher (at texts name)

-- `captures` are what the components capture: the results of `looks`, what the matchers see in
-- their texts before an engine is called, once the engines are called that `looks` ask for.
abbrev pub AreCaptured : {E : Type 0} → (answer : E → List ℕ → Option Captures) → Eight (Look E)
    → Eight GroupCaptures → Type 0
AreCaptured answer looks captures =
    (name : ComponentName)
    → look_result answer (Some (at looks name)) ≡ Some (captures_of (at captures name))

-- The captures of the component `name`.
abbrev pub all_captures : Eight GroupCaptures → ComponentName → Captures
all_captures captures name = captures_of (at captures name)

-- `captures` are what the matchers of the pattern return for their texts.
abbrev pub HasMatcherResults : {E : Type 0} → (answer : E → List ℕ → Option Captures)
    → PatternView E → Texts → Eight GroupCaptures → Type 0
HasMatcherResults answer pattern texts captures =
    AreResults answer pattern texts (all_captures captures)

-- `result` has `texts` and, by the names of the pattern's groups, `captures`.
abbrev pub HasCaptures : {E : Type 0} → PatternView E → Texts → Eight GroupCaptures
    → (result : ComponentName → ResultView) → Type 0
HasCaptures pattern texts captures result =
    (name : ComponentName)
    → IsResultOf (pattern name).group_name_list (all_captures captures name) (at texts name)
    (result name)

-- `groups` are the names of each component's groups, in order, each with its capture of `captures`.
abbrev pub HasGroups : {E : Type 0} → PatternView E → Eight GroupCaptures
    → (groups : ComponentName → List (List ℕ × Option (List ℕ))) → Type 0
HasGroups pattern captures groups =
    (name : ComponentName)
    → groups name ≡ zip (pattern name).group_name_list (all_captures captures name)
