-- The plain fixed texts at the ends of parts, and the matcher of the parts between them.
use Rattle.std.proofs.Common.{◌≡◌, ℕ, false, List, [], ◌∷◌, ◌++◌, length, refl, sym, ap, ◌∙◌, subst, append_assoc, arith}
use Rattle.std.proofs.lemmas.Bool.{false≢true}
use Rattle.std.proofs.lemmas.List.{append-nil}
use Rattle.std.specs.Prelude.{IsTrue, ◌≤◌, Option, Some, None, Result, option_to_list}
use Rattle.urlpattern_matcher.specs.Matchers.{StripsFixedSuffix, StripsFixedPrefix, StripsFixedTexts}
use Rattle.urlpattern_meaning.specs.Matching.{BeginsPlain, EndsPlain, IsRemoved, IsMadeBetween, IsMadeByEngine, IsMadeOf, MatcherView, end_text}
use Rattle.urlpattern_syntax.specs.Errors.{ErrorView}
use Rattle.urlpattern_syntax.specs.Options.{OptionsView}
use Rattle.urlpattern_syntax.specs.Parts.{PartView}
use Rattle.urlpattern_syntax.specs.RegexpText.{is_plain}

-- ---- the start

pub front-some : (parts rest : List PartView) (part : PartView) (text : List ℕ) → parts ≡ part ∷ rest → IsTrue (is_plain part) → text ≡ part.value → StripsFixedPrefix parts text rest
front-some parts rest part text e plain is_text = (Some part, e, plain, is_text)

pub front-none : (parts : List PartView) (text : List ℕ) → ¬ BeginsPlain parts → text ≡ [] → StripsFixedPrefix parts text parts
front-none parts text other empty = (None, refl, other, empty)

pub begins-other : (parts rest : List PartView) (part : PartView) → parts ≡ part ∷ rest → is_plain part ≡ false → ¬ BeginsPlain parts
begins-other parts rest part e other h = false≢true (sym other ∙ subst BeginsPlain e h)

pub begins-nothing : (parts : List PartView) → parts ≡ [] → ¬ BeginsPlain parts
begins-nothing parts e h = subst BeginsPlain e h

-- ---- the end

ends-last : (parts : List PartView) (part : PartView) → EndsPlain (parts ++ part ∷ []) → IsTrue (is_plain part)
ends-last [] part h = h
ends-last (first ∷ []) part h = h
ends-last (first ∷ next ∷ parts) part h = ends-last (next ∷ parts) part h

pub back-some : (parts middle : List PartView) (part : PartView) (text : List ℕ) → parts ≡ middle ++ part ∷ [] → IsTrue (is_plain part) → text ≡ part.value → StripsFixedSuffix parts middle text
back-some parts middle part text e plain is_text = (Some part, e, plain, is_text)

pub back-none : (parts : List PartView) (text : List ℕ) → ¬ EndsPlain parts → text ≡ [] → StripsFixedSuffix parts parts text
back-none parts text other empty = (None, sym (append-nil parts), other, empty)

pub ends-other : (parts middle : List PartView) (part : PartView) → parts ≡ middle ++ part ∷ [] → is_plain part ≡ false → ¬ EndsPlain parts
ends-other parts middle part e other h = false≢true (sym other ∙ ends-last middle part (subst EndsPlain e h))

pub ends-nothing : (parts : List PartView) → parts ≡ [] → ¬ EndsPlain parts
ends-nothing parts e h = subst EndsPlain e h

-- ---- both

back-goes : (rest middle : List PartView) (back : Option PartView) → rest ≡ middle ++ option_to_list back → IsRemoved back (EndsPlain rest) → IsRemoved back (EndsPlain middle)
back-goes rest middle None e goes = λ h. goes (subst EndsPlain (sym (append-nil middle) ∙ sym e) h)
back-goes rest middle (Some part) e goes = goes

pub peels-both : (parts rest middle : List PartView) (prefix suffix : List ℕ) → StripsFixedPrefix parts prefix rest → StripsFixedSuffix rest middle suffix → StripsFixedTexts parts prefix middle suffix
peels-both parts rest middle prefix suffix (front, cut, goes, is_prefix) (back, cut_back, goes_back, is_suffix) = (
  front,
  back,
  record {
    cut = cut ∙ ap (λ x. option_to_list front ++ x) cut_back ∙ sym (append_assoc (option_to_list front) middle (option_to_list back));
    front_removed = goes;
    back_removed = back-goes rest middle back cut_back goes_back;
  },
  is_prefix,
  is_suffix,
)

-- ---- what is made of the middle

-- The matcher of parts, by the parts in the middle.
pub made-of : {E : Type 0} (IsEngine : (regexp : List ℕ) → Result E ErrorView → Type 0) (options : OptionsView) (parts middle : List PartView) (prefix suffix : List ℕ) (matcher : MatcherView E) →
    StripsFixedTexts parts prefix middle suffix → IsMadeBetween IsEngine options prefix middle suffix matcher →
    IsMadeOf IsEngine options parts matcher
made-of IsEngine options parts middle prefix suffix matcher (front, back, peeled, is_prefix, is_suffix) made = record {
  front = front;
  middle = middle;
  back = back;
  are_stripped = peeled;
  is_made =
      subst (λ x. IsMadeBetween IsEngine options x middle (end_text back) matcher) is_prefix
      (subst (λ x. IsMadeBetween IsEngine options prefix middle x matcher) is_suffix made);
}

-- Two parts or more are left to an engine.
pub many-by_engine : {E : Type 0} (IsEngine : (regexp : List ℕ) → Result E ErrorView → Type 0) (options : OptionsView) (prefix : List ℕ) (middle : List PartView) (suffix : List ℕ) (matcher : MatcherView E) →
    2 ≤ length middle → IsMadeByEngine IsEngine options prefix middle suffix matcher → IsMadeBetween IsEngine options prefix middle suffix matcher
many-by_engine IsEngine options prefix [] suffix matcher len made = absurd (omega arith)
many-by_engine IsEngine options prefix (part ∷ []) suffix matcher len made = absurd (omega arith)
many-by_engine IsEngine options prefix (part ∷ next ∷ parts) suffix matcher len made = made
