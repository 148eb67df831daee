-- The texts that patterns match, by their parts.
use Rattle.std.proofs.Common.{◌≡◌, ◌∙◌, ◌↔◌, ◌⊎◌, ℕ, Bool, true, false, List, [], ◌∷◌, inl, inr, refl, sym, subst}
use Rattle.std.proofs.lemmas.Bool.{false≢true}
use Rattle.std.specs.Prelude.{⊤, ◌&&◌, not, IsSomeAnd, MatchOption, Option, Some, None, String}
use Rattle.std.specs.declared.alloc.Global.{Global}
use Rattle.urlpattern_compare.specs.MeantTexts.{MeansText}
use Rattle.urlpattern_compare.specs.TextSearch as compared
use Rattle.urlpattern_matcher.specs.Components.{IsEngineOf, engine_flags, honours_case}
use Rattle.urlpattern_matcher.specs.FirstWays.{Acceptance, ValuesReturnByFlags}
use Rattle.urlpattern_matcher.specs.declared.regexp.RegExp.{Ghosts as Engine}
use Rattle.urlpattern_init.specs.UrlTexts.{EachIsLine, IsLine}
use Rattle.urlpattern_meaning.specs.FirstResults.{AcceptedText}
use Rattle.urlpattern_meaning.specs.Matching.{InnerView, IsMadeOf, IsMatched, Literal, MatcherView, RegExp, Returns, SingleCapture}
use Rattle.urlpattern_meaning.specs.PartMeaning.{AreGenerated, Captures}
use Rattle.urlpattern_expressions.specs.{MatchedPartTexts.PartsMatch, PartCaptures.IsCapturedByParts, PartCaptures.PartsCapture, SimpleExpressions.HaveMeaning}
use Rattle.urlpattern_pattern.proofs.MatchersDecide.{answered}
use Rattle.urlpattern_pattern.specs.{ByText.EachReturnsFirstOfParts, Match.AreMatched, Patterns.PatternView, UrlPatterns.AreMadeOfParts}
use Rattle.urlpattern_laws.specs.PartReadings.{ApartMatchNothing, AreItsParts, CommonAreMatched, CoveredAreMatched, CoveredByEngineAreMatched, CoveredByMeaningAreMatched, IsCoveredByMeaning, KnownAreCoveredByMeaning, OwnPartsMean, OwnPartsMeanWithCase, PartingsAreMatched, SameAreMatched}
use Rattle.urlpattern_compare.proofs.AnswerLemmas.{known_generated}
use Rattle.urlpattern_compare.proofs.KeptCase.{kept_matches}
use Rattle.urlpattern_laws.proofs.FoldedMeaning.{fast_matches, ignored_matches, made_case}
use Rattle.urlpattern_meaning.proofs.MatchingLaws.{IsFast}
use Rattle.urlpattern_compare.proofs.SameParts.{known_or_not, same_flips, same_within}
use Rattle.urlpattern_compare.specs.Comparing.{AreSame, IsCommonText, IsComponentCovered, IsExampleText, IsKnown, IsMeantBy, IsOnlyIn, MatchesNoLine, MeansIn}
use Rattle.urlpattern_syntax.specs.declared.parts.ComponentParts.{ComponentParts}
use Rattle.urlpattern_compare.specs.declared.pattern_parts.PatternParts.{PatternParts}
use Rattle.urlpattern_components.specs.declared.eight.ComponentName.{ComponentName}
use Rattle.urlpattern_components.specs.Eight.{Texts, at}
use Rattle.urlpattern_syntax.specs.Options.{OptionsView, options_view}
use Rattle.urlpattern_syntax.specs.Parts.{PartView, parts_view}
use Rattle.urlpattern_syntax.specs.Text.{text_of}

-- ---- a single component

-- Parts that have captures in a text match it.
captures_match : (options : OptionsView) (parts : List PartView) (text : List ℕ) (captures : Captures) → PartsCapture options parts text captures → PartsMatch options parts text
captures_match options [] text captures is = is.0
captures_match options (part ∷ parts) text captures (first, rest, own, others, cut, all, one, more) =
    (first, rest, cut, (one.count, one.allowed, one.are_copies), captures_match options parts rest others more)

-- A result that is captured by the parts says whether they match the text.
by_answer : {E : Type 0} (answer : E → List ℕ → Option Captures) (matcher : MatcherView E) (options : OptionsView) (parts : List PartView) (text : List ℕ) (found : Option Captures) →
    Returns answer matcher text found → IsCapturedByParts options parts text found → PartsMatch options parts text → IsMatched answer matcher text
by_answer answer matcher options parts text (Some captures) answers captured matches = (captures, answers)
by_answer answer matcher options parts text None answers captured matches = absurd (captured matches)

-- Where case is kept, a matcher whose results are captured by the parts matches what they mean.
pub captured_matches : {E : Type 0} (answer : E → List ℕ → Option Captures) (matcher : MatcherView E) (options : OptionsView) (parts : List PartView) (text : List ℕ) → options.ignore_case ≡ false →
    ((found : Option Captures) → Returns answer matcher text found → IsCapturedByParts options parts text found) → IsMatched answer matcher text ↔ MeansText options parts text
captured_matches answer matcher options parts text kept captured =
    let whole = answered answer matcher text in
    let same = kept_matches options parts text kept in (
      λ matched. same.1 (captures_match options parts text matched.0 (captured (Some matched.0) matched.1)),
      λ means. by_answer answer matcher options parts text whole.0 whole.1 (captured whole.0 whole.1) (same.0 means),
    )

-- ---- a whole pattern

-- Where case is kept, a matcher of parts matches what they mean, if the engine returns first ways.
first_matches : {E : Type 0} (engine : Engine E) (Accepted : Acceptance E) → EachReturnsFirstOfParts engine Accepted → (options : OptionsView) (parts : List PartView) (matcher : MatcherView E) →
    IsMadeOf (IsEngineOf engine false (engine_flags options)) options parts matcher → HaveMeaning options parts → Accepted options (engine_flags options) matcher.inner →
    (text : List ℕ) → IsLine text → IsMatched engine.answer matcher text ↔ MeansText options parts text
first_matches engine Accepted firsts options parts matcher made have took text line =
    let answers = firsts options (engine_flags options) parts matcher made have took in
    captured_matches engine.answer matcher options parts text have.case_kept
    (λ found is_answer. (answers text found line.no_line_feed line.characters is_answer).is_captured)

-- A component that keeps case matches what its parts mean, if the engine returns first ways.
pub own_parts_mean : {E : Type 0} (engine : Engine E) (Accepted : Acceptance E) → EachReturnsFirstOfParts engine Accepted →
    ((options : OptionsView) (inner : InnerView E) → AcceptedText (λ value. ⊤) inner → Accepted options (engine_flags options) inner) → OwnPartsMeanWithCase engine
own_parts_mean engine Accepted firsts taken pattern parts made name keeps known text line =
    let kept = at parts.components name in
    let options = options_view kept.options in
    let matcher = (pattern name).matcher in
    let is = made name in
    let made_of = is.is_component.has_matcher in
    let case = sym (made_case (IsEngineOf engine false (engine_flags options)) options (parts_view kept.parts.items) matcher made_of) ∙ keeps in
    first_matches engine Accepted firsts options (parts_view kept.parts.items) matcher made_of (record { simple = known.parts.simple; case_kept = case }) (taken options matcher.inner is.has_engine.of_matcher) text line

-- Where case is ignored, the matchers that honour case match what their parts mean.
abbrev IgnoredMatch : {E : Type 0} → Engine E → Type 0
IgnoredMatch {E} engine =
    (options : OptionsView) (parts : List PartView) (matcher : MatcherView E) → IsMadeOf (IsEngineOf engine false (engine_flags options)) options parts matcher →
    AcceptedText (λ value. ⊤) matcher.inner → honours_case engine matcher.inner ≡ true → AreGenerated parts → options.ignore_case ≡ true →
    (text : List ℕ) → IsLine text → IsMatched engine.answer matcher text ↔ MeansText options parts text

-- What does not miss case honours it, where case is ignored.
honoured_if : (ignored honours : Bool) → ignored ≡ true → (ignored && not honours) ≡ false → honours ≡ true
honoured_if true true e f = refl
honoured_if true false e f = sym f
honoured_if false honours e f = absurd (false≢true e)

-- A pattern made of parts matches what they mean, if the engine returns first ways where case is
-- kept.
any_parts_mean : {E : Type 0} (engine : Engine E) (Accepted : Acceptance E) → EachReturnsFirstOfParts engine Accepted → IgnoredMatch engine →
    ((options : OptionsView) (inner : InnerView E) → AcceptedText (λ value. ⊤) inner → Accepted options (engine_flags options) inner) → OwnPartsMean engine
any_parts_mean engine Accepted firsts match_ignored taken pattern parts made name known text line = by (at parts.components name).options.ignore_case refl
  where
    by : (ignores : Bool) → (at parts.components name).options.ignore_case ≡ ignores → IsMatched engine.answer (pattern name).matcher text ↔ MeansIn (at parts.components name) text
    by false kept =
        let component = at parts.components name in
        first_matches engine Accepted firsts (options_view component.options) (parts_view component.parts.items) (pattern name).matcher (made name).is_component.has_matcher
        (record { simple = known.parts.simple; case_kept = kept }) (taken (options_view component.options) (pattern name).matcher.inner (made name).has_engine.of_matcher) text line
    by true ignored =
        let component = at parts.components name in
        match_ignored (options_view component.options) (parts_view component.parts.items) (pattern name).matcher (made name).is_component.has_matcher
        (made name).has_engine.of_matcher (sym (made name).case ∙ honoured_if component.options.ignore_case component.honours_case ignored known.case) (known_generated (options_view component.options) (parts_view component.parts.items) known.parts ignored) ignored text line

-- A pattern over an engine that honours the flag `i` matches what its parts mean.
pub all_parts_mean : {E : Type 0} (engine : Engine E) (Accepted : Acceptance E) → EachReturnsFirstOfParts engine Accepted → ValuesReturnByFlags engine →
    ((options : OptionsView) (inner : InnerView E) → AcceptedText (λ value. ⊤) inner → Accepted options (engine_flags options) inner) → OwnPartsMean engine
all_parts_mean engine Accepted firsts by_flags taken =
    any_parts_mean engine Accepted firsts (λ options parts matcher made took honours. ignored_matches engine by_flags options parts matcher made took) taken

-- A matcher that honours case over an engine that does not needs no engine.
fast_if : {E : Type 0} (engine : Engine E) (inner : InnerView E) → engine.case_honoured ≡ false → honours_case engine inner ≡ true → IsFast inner
fast_if engine (Literal literal) keeps honours = tt
fast_if engine (SingleCapture filter allow_empty) keeps honours = tt
fast_if engine (RegExp regexp) keeps honours = absurd (false≢true (sym keeps ∙ honours))

-- A pattern over an engine that does not honour the flag `i` matches what its parts mean, as far as
-- they tell.
pub keeping_parts_mean : {E : Type 0} (engine : Engine E) (Accepted : Acceptance E) → EachReturnsFirstOfParts engine Accepted → engine.case_honoured ≡ false →
    ((options : OptionsView) (inner : InnerView E) → AcceptedText (λ value. ⊤) inner → Accepted options (engine_flags options) inner) → OwnPartsMean engine
keeping_parts_mean engine Accepted firsts keeps taken =
    any_parts_mean engine Accepted firsts (λ options parts matcher made took honours. fast_matches engine options parts matcher made (fast_if engine matcher.inner keeps honours)) taken

-- ---- laws

-- A line is one that is compared.
compared_line : (text : List ℕ) → IsLine text → compared.IsLine text
compared_line text line = record { scalars = line.characters; plain = line.no_line_feed }

meant_component : {E : Type 0} (answer : E → List ℕ → Option Captures) (pattern asked : PatternView E) (parts asked_parts : PatternParts) (name : ComponentName) (text : List ℕ) →
    AreItsParts answer pattern parts → AreItsParts answer asked asked_parts → IsCoveredByMeaning (at parts.components name) (at asked_parts.components name) → IsLine text →
    IsMatched answer (asked name).matcher text → IsMatched answer (pattern name).matcher text
meant_component answer pattern asked parts asked_parts name text are asked_are (inl each_line) line matched =
    (are name each_line.known text line).1 (each_line.takes text (compared_line text line))
meant_component answer pattern asked parts asked_parts name text are asked_are (inr within) line matched =
    (are name within.known text line).1 (within.within text (compared_line text line) ((asked_are name within.asked_known text line).0 matched))

-- Equal parts cover by meaning, where the meaning is known.
meant_or_same : (component asked : ComponentParts) → IsComponentCovered component asked → IsCoveredByMeaning component asked ⊎ (¬ IsKnown component × AreSame component asked)
meant_or_same component asked (inl each_line) = inl (inl each_line)
meant_or_same component asked (inr (inl within)) = inl (inr within)
meant_or_same component asked (inr (inr same)) = elim (known_or_not component) [
  | inl known ↦ inl (inr (same_within component asked same known))
  | inr unknown ↦ inr (unknown, same)
]

covered_component : {E : Type 0} (answer : E → List ℕ → Option Captures) (pattern asked : PatternView E) (parts asked_parts : PatternParts) (name : ComponentName) (text : List ℕ) →
    AreItsParts answer pattern parts → AreItsParts answer asked asked_parts → SameAreMatched answer pattern asked parts asked_parts →
    IsComponentCovered (at parts.components name) (at asked_parts.components name) → IsLine text →
    IsMatched answer (asked name).matcher text → IsMatched answer (pattern name).matcher text
covered_component answer pattern asked parts asked_parts name text are asked_are alike covered line matched = elim (meant_or_same (at parts.components name) (at asked_parts.components name) covered) [
  | inl meant ↦ meant_component answer pattern asked parts asked_parts name text are asked_are meant line matched
  | inr same ↦ alike name same.0 same.1 text line matched
]

nothing_matched : {E : Type 0} (answer : E → List ℕ → Option Captures) (asked : PatternView E) (parts : PatternParts) (name : ComponentName) → AreItsParts answer asked parts →
    MatchesNoLine (at parts.components name) → (texts : Texts) → EachIsLine texts → ¬ AreMatched answer asked texts
nothing_matched answer asked parts name are nothing texts lines matched =
    let line = lines name in
    nothing.takes_none (at texts name) (compared_line (at texts name) line) ((are name nothing.known (at texts name) line).0 (matched name))

pub covered_matched : {E : Type 0} (answer : E → List ℕ → Option Captures) → CoveredAreMatched answer
covered_matched answer pattern asked parts asked_parts are asked_are alike (inl (name, nothing)) texts lines matched =
    absurd (nothing_matched answer asked asked_parts name asked_are nothing texts lines matched)
covered_matched answer pattern asked parts asked_parts are asked_are alike (inr each_is) texts lines matched =
    λ name. covered_component answer pattern asked parts asked_parts name (at texts name) are asked_are alike (each_is name) (lines name) (matched name)

pub meant_matched : {E : Type 0} (answer : E → List ℕ → Option Captures) → CoveredByMeaningAreMatched answer
meant_matched answer pattern asked parts asked_parts are asked_are (inl (name, nothing)) texts lines matched =
    absurd (nothing_matched answer asked asked_parts name asked_are nothing texts lines matched)
meant_matched answer pattern asked parts asked_parts are asked_are (inr each_is) texts lines matched =
    λ name. meant_component answer pattern asked parts asked_parts name (at texts name) are asked_are (each_is name) (lines name) (matched name)

pub known_meant : KnownAreCoveredByMeaning
known_meant pattern asked known (inl nothing) = inl nothing
known_meant pattern asked known (inr each_is) = inr (λ name. elim (meant_or_same (at pattern.components name) (at asked.components name) (each_is name)) [
  | inl meant ↦ meant
  | inr same ↦ absurd (same.0 (known name same.1))
])

pub covered_by_engine : {E : Type 0} (engine : Engine E) → OwnPartsMean engine →
    ((pattern asked : PatternView E) (parts asked_parts : PatternParts) → AreMadeOfParts engine parts pattern → AreMadeOfParts engine asked_parts asked → SameAreMatched engine.answer pattern asked parts asked_parts) →
    CoveredByEngineAreMatched engine
covered_by_engine engine mean made pattern asked parts asked_parts by also covered =
    covered_matched engine.answer pattern asked parts asked_parts (mean pattern parts by) (mean asked asked_parts also)
    (made pattern asked parts asked_parts by also) covered

meant_line : (component : ComponentParts) (text : String Global) → IsMeantBy component (text_of text) → IsLine (text_of text)
meant_line component text meant = record { characters = meant.line.scalars; no_line_feed = meant.line.plain }

-- A component matches a text that its parts mean.
meant_text : {E : Type 0} (answer : E → List ℕ → Option Captures) (pattern : PatternView E) (parts : PatternParts) (name : ComponentName) (known : String Global) (text : List ℕ) →
    AreItsParts answer pattern parts → IsMeantBy (at parts.components name) (text_of known) → text ≡ text_of known → IsMatched answer (pattern name).matcher text
meant_text answer pattern parts name known text are meant same =
    subst (λ (t : List ℕ). IsMatched answer (pattern name).matcher t) (sym same)
    ((are name meant.known (text_of known) (meant_line (at parts.components name) known meant)).1 meant.means)

-- A component matches its example, or any text that it matches where there is none.
example_matched : {E : Type 0} (answer : E → List ℕ → Option Captures) (pattern : PatternView E) (parts : PatternParts) (name : ComponentName) (found : Option (String Global)) (text : List ℕ) →
    AreItsParts answer pattern parts → IsExampleText (at parts.components name) found →
    MatchOption found (IsMatched answer (pattern name).matcher text) (λ it. text ≡ text_of it) → IsMatched answer (pattern name).matcher text
example_matched answer pattern parts name None text are is matched = matched
example_matched answer pattern parts name (Some known) text are is same = meant_text answer pattern parts name known text are is same

-- A common text of a component is matched by both patterns.
common_component : {E : Type 0} (answer : E → List ℕ → Option Captures) (pattern other : PatternView E) (parts other_parts : PatternParts) (name : ComponentName) (found : Option (String Global)) (text : List ℕ) →
    AreItsParts answer pattern parts → AreItsParts answer other other_parts → SameAreMatched answer other pattern other_parts parts →
    IsCommonText (at parts.components name) (at other_parts.components name) found → IsLine text →
    MatchOption found (IsMatched answer (pattern name).matcher text) (λ it. text ≡ text_of it) →
    IsMatched answer (pattern name).matcher text × IsMatched answer (other name).matcher text
common_component answer pattern other parts other_parts name None text are other_are alike is line matched = (
  matched,
  covered_component answer other pattern other_parts parts name text other_are are alike (inr (inr (same_flips (at parts.components name) (at other_parts.components name) is.0))) line matched,
)
common_component answer pattern other parts other_parts name (Some known) text are other_are alike is line same =
    (meant_text answer pattern parts name known text are is.0 same, meant_text answer other other_parts name known text other_are is.1 same)

pub common_matched : {E : Type 0} (answer : E → List ℕ → Option Captures) → CommonAreMatched answer
common_matched answer pattern other parts other_parts found are other_are alike common texts lines known = (
  λ name. (common_component answer pattern other parts other_parts name (at found name) (at texts name) are other_are alike (common name) (lines name) (known name)).0,
  λ name. (common_component answer pattern other parts other_parts name (at found name) (at texts name) are other_are alike (common name) (lines name) (known name)).1,
)

-- The text that parts two patterns is the known one.
parting_text : {E : Type 0} (answer : E → List ℕ → Option Captures) (pattern asked : PatternView E) (parts asked_parts : PatternParts) (name : ComponentName) (found : Option (String Global)) (text : List ℕ) →
    AreItsParts answer pattern parts → IsSomeAnd found (λ it. IsOnlyIn (at parts.components name) (at asked_parts.components name) (text_of it)) →
    MatchOption found (IsMatched answer (asked name).matcher text) (λ it. text ≡ text_of it) → ¬ IsMatched answer (pattern name).matcher text
parting_text answer pattern asked parts asked_parts name None text are is same matched = absurd is
parting_text answer pattern asked parts asked_parts name (Some known) text are is same matched =
    is.not_meant ((are name is.known (text_of known) (meant_line (at asked_parts.components name) known is.meant)).0
    (subst (λ (t : List ℕ). IsMatched answer (pattern name).matcher t) same matched))

pub partings_matched : {E : Type 0} (answer : E → List ℕ → Option Captures) → PartingsAreMatched answer
partings_matched answer pattern asked parts asked_parts parting are asked_are is texts known =
    let name = parting.component in (
      λ other. example_matched answer asked asked_parts other (at parting.texts other) (at texts other) asked_are (is.examples other) (known other),
      parting_text answer pattern asked parts asked_parts name (at parting.texts name) (at texts name) are is.parted (known name),
    )

pub apart_matched : {E : Type 0} (answer : E → List ℕ → Option Captures) → ApartMatchNothing answer
apart_matched answer pattern other parts other_parts name are other_are apart texts lines matched other_matched =
    let line = lines name in
    apart.apart (at texts name) (compared_line (at texts name) line) ((are name apart.known (at texts name) line).0 (matched name))
    ((other_are name apart.other_known (at texts name) line).0 (other_matched name))
