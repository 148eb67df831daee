-- Matchers made of parts whose custom expressions are simple return the first way of the parts.
use Rattle.std.proofs.Common.{◌≡◌, ℕ, List, Bool, false, Option, Some, None, Result, refl, sym, ap, subst, ◌∙◌}
use Rattle.std.specs.Prelude.{⊤, IfSome, IsTrue, Ok, Err, is_some, option_and_then}
use Rattle.std.specs.Str.{all_scalars}
use Rattle.regex.specs.declared.string.regex.Regex.{Regex}
use Rattle.urlpattern_engine.specs.EcmaRegexps.{KeepsRegex, ecma_engine}
use Rattle.urlpattern_engine.specs.PatternRegexps.{pattern_engine}
use Rattle.urlpattern_expressions.proofs.SimpleLemmas.{generated_simple}
use Rattle.urlpattern_expressions.specs.MatchedPartTexts.{AllCaptureNothing, AllStandAlone}
use Rattle.urlpattern_expressions.specs.PartCaptures.{IsCapturedByParts}
use Rattle.urlpattern_expressions.specs.PartWays.{parts_first_way_by}
use Rattle.urlpattern_expressions.specs.PartsFirst.{IsFirstOfParts, ReturnsFirstOfMiddle, ReturnsFirstOfParts}
use Rattle.urlpattern_expressions.specs.SimpleExpressions.{AreSimple, HasSimpleExpression, HaveMeaning}
use Rattle.urlpattern_laws.proofs.FirstOfTrees.{first_of_tree}
use Rattle.urlpattern_laws.proofs.MatchersCapture.{engine_captured, fast_captured, parts_capture_meanings}
use Rattle.urlpattern_laws.proofs.MatchersFirst.{engine_first, fast_first}
use Rattle.urlpattern_laws.proofs.MatchersTaken.{all_plain, fast_plain, made_between, middle_all}
use Rattle.urlpattern_laws.proofs.SimpleRead.{simple_alone_by, simple_silent_by}
use Rattle.urlpattern_laws.proofs.TakenMeanings.{means_takes}
use Rattle.urlpattern_laws.proofs.ValuesTaken.{pattern_values_capture, pattern_values_first, regex_values_capture, regex_values_first}
use Rattle.urlpattern_matcher.specs.Components.{IsEngineOf}
use Rattle.urlpattern_matcher.specs.FirstWays.{Acceptance, EachReturnsFirst, KeepsCase}
use Rattle.urlpattern_matcher.specs.Regexes.{IsRegexOf, regex_engine, regex_result}
use Rattle.urlpattern_matcher.specs.declared.regexp.RegExp.{Ghosts as Engine}
use Rattle.urlpattern_meaning.proofs.FirstResults.{first_agrees}
use Rattle.urlpattern_meaning.proofs.MatcherMeaning.{ends_of}
use Rattle.urlpattern_meaning.proofs.MatchingLaws.{IsFast, fast_means}
use Rattle.urlpattern_meaning.proofs.OneMeaning.{is_tree_of}
use Rattle.urlpattern_meaning.proofs.PartTrees.{tree_of}
use Rattle.urlpattern_meaning.proofs.StrippedParts.{middle_one}
use Rattle.urlpattern_meaning.specs.FirstResults.{AcceptedText, IsFirstOf}
use Rattle.urlpattern_meaning.specs.Matching.{Agrees, InnerView, IsMadeOf, Literal, MatcherView, RegExp, SingleCapture, end_text}
use Rattle.urlpattern_meaning.specs.PartMeaning.{AreGenerated, Captures}
use Rattle.urlpattern_pattern.specs.ByText.{AcceptedAlone, EachReturnsFirstOfParts, MakesFirstWays}
use Rattle.urlpattern_syntax.proofs.TokenExamples.{no}
use Rattle.urlpattern_syntax.specs.Errors.{ErrorView}
use Rattle.urlpattern_syntax.specs.Options.{OptionsView}
use Rattle.urlpattern_syntax.specs.Parts.{PartView}
use Rattle.urlpattern_syntax.specs.RegexpText.{regexp_text}

-- ---- parts

pub simple_all_alone : (parts : List PartView) → AreSimple parts → AllStandAlone parts
simple_all_alone = simple_alone_by false

pub simple_all_silent : (parts : List PartView) → AreSimple parts → AllCaptureNothing parts
simple_all_silent = simple_silent_by false

-- Without a custom part, the captures that parts have are those that they mean.
pub captured_agrees : (options : OptionsView) (parts : List PartView) (text : List ℕ) (result : Option Captures) → AreGenerated parts → IsCapturedByParts options parts text result → Agrees options parts text result
captured_agrees options parts text (Some captures) generated is = (parts_capture_meanings options parts text captures generated).0 is
captured_agrees options parts text None generated never = λ captures means. never (means_takes options parts text captures means)

-- ---- matchers

module _ {E : Type 0} (answer : E → List ℕ → Option Captures) (IsEngine : List ℕ → Result E ErrorView → Type 0) (options : OptionsView) (parts : List PartView) (matcher : MatcherView E)
    (made : IsMadeOf IsEngine options parts matcher) (kept : options.ignore_case ≡ false) where
  -- A matcher without an engine has no custom part.
  pub fast : IsFast matcher.inner → ReturnsFirstOfParts answer options parts matcher
  fast is text result no_feed fine answers =
      let plain = all_plain parts made.front made.middle made.back made.are_stripped (fast_plain IsEngine options (end_text made.front) made.middle (end_text made.back) matcher made.is_made is) in
      record {
        is_first = fast_first answer IsEngine options text result parts matcher made no_feed is answers ∙ ap (λ (b : Bool). parts_first_way_by b options parts text) kept;
        is_captured = fast_captured answer options parts matcher text result plain (λ captures. fast_means answer IsEngine options parts matcher text captures made kept no_feed is) answers;
      }

  -- The engine's value for the middle parts makes the result for all parts.
  pub matcher_of_middle : ReturnsFirstOfMiddle answer options parts matcher.inner → ReturnsFirstOfParts answer options parts matcher
  matcher_of_middle firsts = by matcher.inner refl firsts
    where
      by : (inner : InnerView E) → matcher.inner ≡ inner → ReturnsFirstOfMiddle answer options parts inner → ReturnsFirstOfParts answer options parts matcher
      by (Literal literal) e firsts = fast (subst (λ i. IsFast i) (sym e) tt)
      by (SingleCapture filter allow_empty) e firsts = fast (subst (λ i. IsFast i) (sym e) tt)
      by (RegExp (Err error)) e firsts = absurd firsts
      by (RegExp (Ok engine)) e (front, middle, back, peeled, firsts) = λ text result no_feed fine answers.
          let same : middle ≡ made.middle = middle_one parts front made.front middle made.middle back made.back peeled made.are_stripped in
          let ends = ends_of IsEngine options (end_text made.front) made.middle (end_text made.back) matcher (Ok engine) made.is_made e in
          let own : (t : List ℕ) → IsTrue (all_scalars t) → IsFirstOfParts options made.middle t (answer engine t) =
          subst (λ (m : List PartView). (t : List ℕ) → IsTrue (all_scalars t) → IsFirstOfParts options m t (answer engine t)) same firsts in
          record {
            is_first =
                engine_first answer IsEngine options text result parts made.front made.middle made.back matcher engine made.are_stripped ends e
                (λ t good. (own t good).is_first ∙ ap (λ (b : Bool). parts_first_way_by b options made.middle t) (sym kept)) fine answers
                ∙ ap (λ (b : Bool). parts_first_way_by b options parts text) kept;
            is_captured = engine_captured answer options parts made.front made.middle made.back matcher engine text result made.are_stripped ends e kept (λ t good. (own t good).is_captured) fine answers;
          }

-- Values that the engine made of simple parts, and of which `Holds` is true, return first ways. So
-- do the matchers that have such values.
module _ {E : Type 0} (engine : Engine E) (Accepted : Acceptance E) (Holds : (flags : List ℕ) → E → Type 0)
    (takes : (options : OptionsView) (flags : List ℕ) (inner : InnerView E) → options.ignore_case ≡ false → Accepted options flags inner → AcceptedText (Holds flags) inner)
    (values : (options : OptionsView) (flags : List ℕ) (middle : List PartView) (value : E) → AllStandAlone middle → AllCaptureNothing middle → engine.IsMade value (regexp_text options middle) flags → Holds flags value →
    (text : List ℕ) → IsTrue (all_scalars text) → IsFirstOfParts options middle text (engine.answer value text)) where
  pub each_first : EachReturnsFirstOfParts engine Accepted
  each_first options flags parts matcher made have took =
      matcher_of_middle engine.answer IsEngine options parts matcher made have.case_kept (by matcher.inner refl (takes options flags matcher.inner have.case_kept took))
    where
      IsEngine : List ℕ → Result E ErrorView → Type 0
      IsEngine = IsEngineOf engine false flags

      by : (inner : InnerView E) → matcher.inner ≡ inner → AcceptedText (Holds flags) inner → ReturnsFirstOfMiddle engine.answer options parts inner
      by (Literal literal) e holds = tt
      by (SingleCapture filter allow_empty) e holds = tt
      by (RegExp (Err error)) e holds = absurd holds
      by (RegExp (Ok value)) e holds = (
        made.front,
        made.middle,
        made.back,
        made.are_stripped,
        λ text fine.
            let simple = middle_all (λ part. HasSimpleExpression part.kind part.value) parts made.front made.middle made.back made.are_stripped have.simple in
            values options flags made.middle value (simple_all_alone made.middle simple) (simple_all_silent made.middle simple)
            (made_between IsEngine options (end_text made.front) made.middle (end_text made.back) matcher (Ok value) made.is_made e) holds text fine,
      )

-- ---- engines

any_value : {E : Type 0} (P : Type 0) → P → (inner : InnerView E) → AcceptedText (λ value. ⊤) inner → AcceptedText (λ value. P) inner
any_value P p (Literal literal) took = tt
any_value P p (SingleCapture filter allow_empty) took = tt
any_value P p (RegExp (Ok value)) took = p
any_value P p (RegExp (Err error)) took = took

pub pattern_makes_first_ways : MakesFirstWays pattern_engine
pattern_makes_first_ways =
    each_first pattern_engine AcceptedAlone (λ flags value. KeepsCase flags) (λ options flags inner kept took. any_value (KeepsCase flags) (took.0 ∙ kept) inner took.1)
    (λ options flags middle value alone silent made keeps text fine. record {
      is_first = pattern_values_first options flags middle value keeps alone silent made text fine;
      is_captured = pattern_values_capture options flags middle value keeps alone silent made text fine;
    })

pub regex_makes_first_ways : MakesFirstWays regex_engine
regex_makes_first_ways =
    each_first regex_engine AcceptedAlone (λ flags value. ⊤) (λ options flags inner kept took. took.1)
    (λ options flags middle value alone silent made any text fine. record {
      is_first = regex_values_first options flags middle value any alone silent made text fine;
      is_captured = regex_values_capture options flags middle value any alone silent made text fine;
    })

-- The value that is held returns the first way.
kept_first : (options : OptionsView) (flags : List ℕ) (middle : List PartView) (kept : Option Regex) → AllStandAlone middle → AllCaptureNothing middle → IfSome kept (IsRegexOf (regexp_text options middle)) → IsTrue (is_some kept) →
    (text : List ℕ) → IsTrue (all_scalars text) → IsFirstOfParts options middle text (option_and_then (λ regex. regex_result regex text) kept)
kept_first options flags middle None alone silent made some text fine = absurd (no some)
kept_first options flags middle (Some regex) alone silent made some text fine = record {
  is_first = regex_values_first options flags middle regex tt alone silent made text fine;
  is_captured = regex_values_capture options flags middle regex tt alone silent made text fine;
}

pub ecma_returns_first : EachReturnsFirstOfParts ecma_engine (λ options flags. AcceptedText KeepsRegex)
ecma_returns_first =
    each_first ecma_engine (λ options flags. AcceptedText KeepsRegex) (λ flags. KeepsRegex) (λ options flags inner kept took. took)
    (λ options flags middle value alone silent made some text fine. kept_first options flags middle value.2 alone silent made.has_read some text fine)

-- ---- parts without a custom one

-- Without a custom part, the first way of the parts is that of the tree.
pub generated_first : {E : Type 0} (engine : Engine E) → MakesFirstWays engine → EachReturnsFirst engine AcceptedAlone
generated_first engine firsts options flags parts matcher taken text result no_feed fine answers =
    let have : HaveMeaning options parts = record { simple = generated_simple parts taken.generated; case_kept = taken.case_kept } in
    let of = firsts options flags parts matcher taken.is_made have taken.took text result no_feed fine answers in
    let tree = tree_of options parts in
    let is_tree = is_tree_of options parts taken.generated in
    let first : IsFirstOf options parts text result = record { tree = tree; is_tree = is_tree; is_first = of.is_first ∙ first_of_tree false options parts tree text taken.generated is_tree } in
    (first, first_agrees options parts text result taken.generated first)
