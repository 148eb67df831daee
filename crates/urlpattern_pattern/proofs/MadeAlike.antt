-- Matchers that were made of the same parts.
use Rattle.std.proofs.Common.{◌≡◌, ◌∙◌, ◌⊎◌, ℕ, List, [], ◌∷◌, ◌++◌, ap, inl, inr, refl, subst, sym, Option, Some, None, Result, Ok, Err}
use Rattle.std.proofs.lemmas.List.{append-nil, same_from_push}
use Rattle.std.specs.Prelude.{⊤, IsTrue, option_to_list}
use Rattle.urlpattern_meaning.specs.FirstResults.{AcceptedText}
use Rattle.urlpattern_meaning.specs.Matching.{BeginsPlain, EndsPlain, IsMadeBetween, IsMadeByEngine, IsMadeOf, IsMadeOfOne, IsRemoved, MatcherView, RegExp, end_text}
use Rattle.urlpattern_syntax.specs.declared.parser.PartModifier.{PartModifier}
use Rattle.urlpattern_syntax.specs.declared.parser.PartModifier.TheVariants as modifiers
use Rattle.urlpattern_syntax.specs.declared.parser.PartType.{PartType}
use Rattle.urlpattern_syntax.specs.declared.parser.PartType.TheVariants.{SegmentWildcard, FullWildcard}
use Rattle.urlpattern_syntax.specs.Errors.{ErrorView}
use Rattle.urlpattern_syntax.specs.Options.{OptionsView}
use Rattle.urlpattern_syntax.specs.Parts.{PartView}
use Rattle.urlpattern_syntax.specs.RegexpText.{is_plain, regexp_text}

-- ---- parts are peeled in one way

ends_plain : (parts : List PartView) (last : PartView) → IsTrue (is_plain last) → EndsPlain (parts ++ last ∷ [])
ends_plain [] last plain = plain
ends_plain (part ∷ []) last plain = plain
ends_plain (part ∷ next ∷ parts) last plain = ends_plain (next ∷ parts) last plain

-- The two ways in which parts are peeled agree.
record ArePeeledAlike (front begin : Option PartView) (middle other : List PartView) (back end : Option PartView) : Type 0 where
  fronts : front ≡ begin
  middles : middle ≡ other
  backs : back ≡ end

back_alike : (middle other : List PartView) (back end : Option PartView) → IsRemoved back (EndsPlain middle) → IsRemoved end (EndsPlain other) →
    middle ++ option_to_list back ≡ other ++ option_to_list end → (middle ≡ other) × (back ≡ end)
back_alike middle other (Some back) (Some end) goes goes_too e =
    let both = same_from_push middle other back end e in (both.0, ap (λ (part : PartView). Some part) both.1)
back_alike middle other (Some back) None goes stays e = absurd (stays (subst EndsPlain (e ∙ append-nil other) (ends_plain middle back goes)))
back_alike middle other None (Some end) stays goes e = absurd (stays (subst EndsPlain (sym e ∙ append-nil middle) (ends_plain other end goes)))
back_alike middle other None None stays stays_too e = (sym (append-nil middle) ∙ e ∙ append-nil other, refl)

head_of : (part other : PartView) (parts others : List PartView) → part ∷ parts ≡ other ∷ others → part ≡ other
head_of part other parts others e = cc e

tail_of : (part other : PartView) (parts others : List PartView) → part ∷ parts ≡ other ∷ others → parts ≡ others
tail_of part other parts others e = cc e

front_alike : (parts : List PartView) (front begin : Option PartView) (middle other : List PartView) (back end : Option PartView) →
    parts ≡ option_to_list front ++ middle ++ option_to_list back → parts ≡ option_to_list begin ++ other ++ option_to_list end →
    IsRemoved front (BeginsPlain parts) → IsRemoved begin (BeginsPlain parts) → IsRemoved back (EndsPlain middle) → IsRemoved end (EndsPlain other) →
    ArePeeledAlike front begin middle other back end
front_alike parts (Some front) (Some begin) middle other back end e f goes goes_too ends ends_too =
    let both : front ∷ (middle ++ option_to_list back) ≡ begin ∷ (other ++ option_to_list end) = sym e ∙ f in
    let rest = back_alike middle other back end ends ends_too (tail_of front begin (middle ++ option_to_list back) (other ++ option_to_list end) both) in
    record {
      fronts = ap (λ (part : PartView). Some part) (head_of front begin (middle ++ option_to_list back) (other ++ option_to_list end) both);
      middles = rest.0;
      backs = rest.1;
    }
front_alike parts (Some front) None middle other back end e f goes stays ends ends_too = absurd (stays (subst BeginsPlain (sym e) goes))
front_alike parts None (Some begin) middle other back end e f stays goes ends ends_too = absurd (stays (subst BeginsPlain (sym f) goes))
front_alike parts None None middle other back end e f stays stays_too ends ends_too =
    let rest = back_alike middle other back end ends ends_too (sym e ∙ f) in record { fronts = refl; middles = rest.0; backs = rest.1 }

-- ---- matchers of the same parts

module _ {E : Type 0} (IsEngine : List ℕ → Result E ErrorView → Type 0) (options : OptionsView) where
  -- The two matchers are equal, or an engine makes both from the same expression.
  abbrev pub AreAlike : (prefix : List ℕ) → (middle : List PartView) → (suffix : List ℕ) → (matcher other : MatcherView E) → Type 0
  AreAlike prefix middle suffix matcher other =
      (matcher ≡ other) ⊎ (IsMadeByEngine IsEngine options prefix middle suffix matcher × IsMadeByEngine IsEngine options prefix middle suffix other)

  one_alike : (kind : PartType) (modifier : PartModifier) (prefix : List ℕ) (part : PartView) (suffix : List ℕ) (matcher other : MatcherView E) →
      IsMadeOfOne IsEngine kind modifier options prefix part suffix matcher → IsMadeOfOne IsEngine kind modifier options prefix part suffix other →
      AreAlike prefix (part ∷ []) suffix matcher other
  one_alike FullWildcard modifiers.None prefix part suffix matcher other made also = inl (made ∙ sym also)
  one_alike SegmentWildcard modifiers.None prefix part suffix matcher other made also = inl (made ∙ sym also)
  one_alike kind modifier prefix part suffix matcher other made also = inr (made, also)

  between_alike : (prefix : List ℕ) (middle : List PartView) (suffix : List ℕ) (matcher other : MatcherView E) →
      IsMadeBetween IsEngine options prefix middle suffix matcher → IsMadeBetween IsEngine options prefix middle suffix other → AreAlike prefix middle suffix matcher other
  between_alike prefix [] suffix matcher other made also = inl (made ∙ sym also)
  between_alike prefix (part ∷ []) suffix matcher other made also = one_alike part.kind part.modifier prefix part suffix matcher other made also
  between_alike prefix (part ∷ next ∷ parts) suffix matcher other made also = inr (made, also)

  pub made_alike : (parts : List PartView) (matcher other : MatcherView E) → (made : IsMadeOf IsEngine options parts matcher) → IsMadeOf IsEngine options parts other →
      AreAlike (end_text made.front) made.middle (end_text made.back) matcher other
  made_alike parts matcher other made also =
      let same = front_alike parts made.front also.front made.middle also.middle made.back also.back made.are_stripped.cut also.are_stripped.cut
      made.are_stripped.front_removed also.are_stripped.front_removed made.are_stripped.back_removed also.are_stripped.back_removed in
      between_alike (end_text made.front) made.middle (end_text made.back) matcher other made.is_made
      (subst (λ (front : Option PartView). IsMadeBetween IsEngine options (end_text front) made.middle (end_text made.back) other) (sym same.fronts)
      (subst (λ (middle : List PartView). IsMadeBetween IsEngine options (end_text also.front) middle (end_text made.back) other) (sym same.middles)
      (subst (λ (back : Option PartView). IsMadeBetween IsEngine options (end_text also.front) also.middle (end_text back) other) (sym same.backs) also.is_made)))

-- ---- an engine that accepted what one matcher needs

module _ {E : Type 0} (IsEngine : List ℕ → Result E ErrorView → Type 0) (options : OptionsView) where
  -- The engine does not both accept and reject this regular expression.
  abbrev pub IsTakenOrRefused : (regexp : List ℕ) → Type 0
  IsTakenOrRefused regexp = (value : E) (error : ErrorView) → IsEngine regexp (Ok value) → ¬ IsEngine regexp (Err error)

  took_engine : (regexp : List ℕ) (own other : Result E ErrorView) → IsTakenOrRefused regexp → IsEngine regexp own → IsEngine regexp other →
      AcceptedText (λ value. ⊤) (RegExp own) → AcceptedText (λ value. ⊤) (RegExp other)
  took_engine regexp own (Ok value) either is also took = tt
  took_engine regexp (Ok value) (Err error) either is also took = absurd (either value error is also)
  took_engine regexp (Err error) (Err other) either is also took = absurd took

  -- The engine accepted what another matcher of the same parts needs.
  pub took_too : (parts : List PartView) (matcher other : MatcherView E) → (made : IsMadeOf IsEngine options parts matcher) → IsMadeOf IsEngine options parts other →
      IsTakenOrRefused (regexp_text options made.middle) → AcceptedText (λ value. ⊤) matcher.inner → AcceptedText (λ value. ⊤) other.inner
  took_too parts matcher other made also either took = by (made_alike IsEngine options parts matcher other made also)
    where
      by : AreAlike IsEngine options (end_text made.front) made.middle (end_text made.back) matcher other → AcceptedText (λ value. ⊤) other.inner
      by (inl same) = subst (λ (m : MatcherView E). AcceptedText (λ value. ⊤) m.inner) same took
      by (inr ((own, is, one), (others, is_too, two))) =
          subst (λ (m : MatcherView E). AcceptedText (λ value. ⊤) m.inner) (sym two)
          (took_engine (regexp_text options made.middle) own others either is is_too (subst (λ (m : MatcherView E). AcceptedText (λ value. ⊤) m.inner) one took))
