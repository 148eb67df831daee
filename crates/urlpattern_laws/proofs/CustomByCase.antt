-- A matcher of parts of ASCII whose custom expressions are simple returns their first way in a text
-- of ASCII, with case ignored or kept, if the values of its engine return first ways by their
-- flags.
use Rattle.std.proofs.Common.{◌≡◌, ℕ, false, List, ◌++◌, inr, refl, subst, sym}
use Rattle.std.specs.Prelude.{⊤, IsAscii, IsTrue, Ok, Err, Option, Result}
use Rattle.std.specs.Str.{all_scalars}
use Rattle.urlpattern_engine.proofs.AsciiWays.{front_ascii, rest_ascii}
use Rattle.urlpattern_expressions.specs.PartWays.{parts_first_way_by}
use Rattle.urlpattern_expressions.specs.SimpleExpressions.{AreOfAscii, AreSimpleBy, HasAsciiTexts, HasSimpleExpressionBy}
use Rattle.urlpattern_init.specs.UrlTexts.{IsLine}
use Rattle.urlpattern_laws.proofs.MatchersFirst.{engine_first_within, fast_first}
use Rattle.urlpattern_laws.proofs.MatchersTaken.{made_between, middle_all}
use Rattle.urlpattern_laws.proofs.SimpleRead.{simple_alone_by, simple_silent_by}
use Rattle.urlpattern_laws.specs.LawsOfWays.{ValuesReturnFirstByFlags}
use Rattle.urlpattern_matcher.proofs.FirstMatchers.{flags_agree}
use Rattle.urlpattern_matcher.specs.Components.{IsEngineOf, engine_flags}
use Rattle.urlpattern_matcher.specs.declared.regexp.RegExp.{Ghosts as Engine}
use Rattle.urlpattern_meaning.proofs.MatcherMeaning.{ends_of, scalars_middle}
use Rattle.urlpattern_meaning.proofs.MatchingLaws.{IsFast}
use Rattle.urlpattern_meaning.specs.FirstResults.{AcceptedText}
use Rattle.urlpattern_meaning.specs.Matching.{InnerView, IsMadeOf, Literal, MatcherView, RegExp, Returns, SingleCapture, end_text}
use Rattle.urlpattern_meaning.specs.PartMeaning.{Captures}
use Rattle.urlpattern_syntax.specs.Errors.{ErrorView}
use Rattle.urlpattern_syntax.specs.Options.{OptionsView}
use Rattle.urlpattern_syntax.specs.Parts.{PartView}

module _ {E : Type 0} (engine : Engine E) (by_parts : ValuesReturnFirstByFlags engine) (options : OptionsView) (parts : List PartView) (matcher : MatcherView E)
    (made : IsMadeOf (IsEngineOf engine false (engine_flags options)) options parts matcher)
    (simple : AreSimpleBy options.ignore_case parts) (plain : AreOfAscii options parts)
    (text : List ℕ) (line : IsLine text) (ascii : IsAscii text) (result : Option Captures) (answers : Returns engine.answer matcher text result) where
  abbrev IsEngine : List ℕ → Result E ErrorView → Type 0
  IsEngine = IsEngineOf engine false (engine_flags options)

  abbrev IsFirst : Type 0
  IsFirst = result ≡ parts_first_way_by options.ignore_case options parts text

  pub custom_first : AcceptedText (λ value. ⊤) matcher.inner → IsFirst
  custom_first took = by matcher.inner refl took
    where
      without : IsFast matcher.inner → IsFirst
      without is = fast_first engine.answer IsEngine options text result parts matcher made line.no_line_feed is answers

      by : (inner : InnerView E) → matcher.inner ≡ inner → AcceptedText (λ value. ⊤) inner → IsFirst
      by (Literal literal) e took = without (subst (λ (i : InnerView E). IsFast i) (sym e) tt)
      by (SingleCapture filter allow_empty) e took = without (subst (λ (i : InnerView E). IsFast i) (sym e) tt)
      by (RegExp (Err error)) e took = absurd took
      by (RegExp (Ok value)) e took =
          let own = middle_all (λ part. HasSimpleExpressionBy options.ignore_case part.kind part.value) parts made.front made.middle made.back made.are_stripped simple in
          let written = middle_all HasAsciiTexts parts made.front made.middle made.back made.are_stripped plain.1 in
          let is = made_between IsEngine options (end_text made.front) made.middle (end_text made.back) matcher (Ok value) made.is_made e in
          engine_first_within engine.answer IsEngine options text result parts made.front made.middle made.back matcher value made.are_stripped
          (ends_of IsEngine options (end_text made.front) made.middle (end_text made.back) matcher (Ok value) made.is_made e) e
          (λ head inner tail cut.
          by_parts options (engine_flags options) made.middle value (flags_agree options) (simple_alone_by options.ignore_case made.middle own) (simple_silent_by options.ignore_case made.middle own) is inner
          (scalars_middle head inner tail (subst (λ (t : List ℕ). IsTrue (all_scalars t)) cut line.characters))
          (inr ((plain.0, written), rest_ascii head inner (front_ascii (head ++ inner) tail (subst IsAscii cut ascii)))))
          answers
