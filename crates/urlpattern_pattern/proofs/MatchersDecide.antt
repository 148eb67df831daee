-- A matcher returns a result for each text.
use Rattle.std.proofs.Common.{◌≡◌, ℕ, ◌+◌, ◌-◌, ◌⊎◌, Bool, true, false, List, [], ◌∷◌, ◌++◌, length, take, drop, inl, inr, refl, sym, ap, subst, ◌∙◌, arith}
use Rattle.std.proofs.lemmas.List.{append_assoc, drop_at, length-append, take-append-drop, take_at}
use Rattle.std.proofs.lemmas.Slice.Eq.{bytes_eq-Decides}
use Rattle.std.specs.Prelude.{Option, Some, None, Ok, Err, IsTrue, bytes_eq}
use Rattle.urlpattern_meaning.proofs.Middles.{middle-one, same-length}
use Rattle.urlpattern_meaning.specs.Matching.{Accepts, Returns, HasMiddle, InnerView, IsSame, Literal, MatcherView, MayBeEmpty, PassesFilter, RegExp, SingleCapture, folded, folded_character}
use Rattle.urlpattern_meaning.specs.PartMeaning.{Captures}
use Rattle.urlpattern_syntax.specs.Text.{lacks}

-- ---- tests

abbrev pub Decided : Type 0 → Type 0
Decided P = P ⊎ ¬ P

pub bool_decided : (test : Bool) → Decided (IsTrue test)
bool_decided true = inl refl
bool_decided false = inr (λ is. let both : false ≡ true = is in cc both)

pub text_decided : (xs ys : List ℕ) → Decided (xs ≡ ys)
text_decided xs ys = by (bytes_eq xs ys) refl
  where
    by : (test : Bool) → bytes_eq xs ys ≡ test → Decided (xs ≡ ys)
    by true e = inl ((bytes_eq-Decides xs ys).0 e)
    by false e = inr (λ same. let both : true ≡ false = sym ((bytes_eq-Decides xs ys).1 same) ∙ e in cc both)

both_decided : (P Q : Type 0) → Decided P → Decided Q → Decided (P × Q)
both_decided P Q (inl p) (inl q) = inl (p, q)
both_decided P Q (inr not_p) q = inr (λ both. not_p both.0)
both_decided P Q (inl p) (inr not_q) = inr (λ both. not_q both.1)

-- ---- the text between the ends

-- A text that is cut in three is its three pieces, joined.
pub cut_in_three : (a b : ℕ) (text : List ℕ) → text ≡ take a text ++ take b (drop a text) ++ drop b (drop a text)
cut_in_three a b text =
    sym (take-append-drop a text) ∙ ap (λ t. take a text ++ t) (sym (take-append-drop b (drop a text)))
    ∙ sym (append_assoc (take a text) (take b (drop a text)) (drop b (drop a text)))

-- A text that is three texts, joined, is cut into them at the lengths of the first and the last.
three_cut : (front middle back text : List ℕ) (a c : ℕ) → text ≡ front ++ middle ++ back → length front ≡ a → length back ≡ c →
    (front ≡ take a text) × (back ≡ drop (length (drop a text) - c) (drop a text))
three_cut front middle back text a c cut fronts backs =
    let whole : text ≡ front ++ (middle ++ back) = cut ∙ append_assoc front middle back in
    let rest : middle ++ back ≡ drop a text = sym (drop_at front (middle ++ back) a fronts) ∙ ap (λ t. drop a t) (sym whole) in
    let sum : length middle + length back ≡ length (drop a text) = sym (length-append middle back) ∙ ap length rest in
    let long : length middle ≡ length (drop a text) - c = omega arith in (
      sym (take_at front (middle ++ back) a fronts) ∙ ap (λ t. take a t) (sym whole),
      sym (drop_at middle back (length (drop a text) - c) long) ∙ ap (λ t. drop (length (drop a text) - c) t) rest,
    )

module _ {E : Type 0} (matcher : MatcherView E) (text : List ℕ) where
  abbrev IsCut : Type 0
  IsCut = (middle : List ℕ) × HasMiddle matcher text middle

  abbrev rest_of : List ℕ
  rest_of = drop (length matcher.prefix) text

  abbrev front_of : List ℕ
  front_of = take (length matcher.prefix) text

  abbrev back_of : List ℕ
  back_of = drop (length rest_of - length matcher.suffix) rest_of

  ends_of : (cut : IsCut) → (IsSame matcher.ignore_case front_of matcher.prefix) × (IsSame matcher.ignore_case back_of matcher.suffix)
  ends_of (middle, (front, back, cut, begins, ends)) =
      let here = three_cut front middle back text (length matcher.prefix) (length matcher.suffix) cut (same-length matcher.ignore_case front matcher.prefix begins) (same-length matcher.ignore_case back matcher.suffix ends) in (
        subst (λ (t : List ℕ). IsSame matcher.ignore_case t matcher.prefix) here.0 begins,
        subst (λ (t : List ℕ). IsSame matcher.ignore_case t matcher.suffix) here.1 ends,
      )

  -- The ends of the text are prefix and suffix, or no cut has them.
  cut_decided : Decided IsCut
  cut_decided =
      by (both_decided (IsSame matcher.ignore_case front_of matcher.prefix) (IsSame matcher.ignore_case back_of matcher.suffix)
      (text_decided (folded matcher.ignore_case front_of) (folded matcher.ignore_case matcher.prefix)) (text_decided (folded matcher.ignore_case back_of) (folded matcher.ignore_case matcher.suffix)))
    where
      by : Decided ((IsSame matcher.ignore_case front_of matcher.prefix) × (IsSame matcher.ignore_case back_of matcher.suffix)) → Decided IsCut
      by (inl both) =
          inl (take (length rest_of - length matcher.suffix) rest_of, (front_of, back_of, cut_in_three (length matcher.prefix) (length rest_of - length matcher.suffix) text, both.0, both.1))
      by (inr neither) = inr (λ cut. neither (ends_of cut))

-- ---- what is accepted

filled_decided : (allow_empty : Bool) (text : List ℕ) → Decided (MayBeEmpty allow_empty text)
filled_decided true text = inl tt
filled_decided false [] = inr (λ filled. filled refl)
filled_decided false (c ∷ text) = inl (λ e. cc e)

filter_decided : (ignore_case : Bool) (filter : Option ℕ) (text : List ℕ) → Decided (PassesFilter ignore_case filter text)
filter_decided ignore_case None text = inl tt
filter_decided ignore_case (Some c) text = bool_decided (lacks (folded_character ignore_case c) (folded ignore_case text))

abbrev IsAccepted : {E : Type 0} → (answer : E → List ℕ → Option Captures) → (ignore_case : Bool) → InnerView E → List ℕ → Type 0
IsAccepted answer ignore_case inner text = (captures : Captures) × Accepts answer ignore_case inner text captures

engine_decided : (found : Option Captures) → Decided ((captures : Captures) × (found ≡ Some captures))
engine_decided (Some captures) = inl (captures, refl)
engine_decided None = inr (λ is. let both : None ≡ Some is.0 = is.1 in cc both)

accepted_decided : {E : Type 0} (answer : E → List ℕ → Option Captures) (ignore_case : Bool) (inner : InnerView E) (text : List ℕ) → Decided (IsAccepted answer ignore_case inner text)
accepted_decided answer ignore_case (Literal literal) text = by (text_decided (folded ignore_case text) (folded ignore_case literal))
  where
    by : Decided (IsSame ignore_case text literal) → Decided (IsAccepted answer ignore_case (Literal literal) text)
    by (inl same) = inl ([], (same, refl))
    by (inr other) = inr (λ is. other is.1.0)
accepted_decided answer ignore_case (SingleCapture filter allow_empty) text =
    by (both_decided (MayBeEmpty allow_empty text) (PassesFilter ignore_case filter text) (filled_decided allow_empty text) (filter_decided ignore_case filter text))
  where
    by : Decided (MayBeEmpty allow_empty text × PassesFilter ignore_case filter text) → Decided (IsAccepted answer ignore_case (SingleCapture filter allow_empty) text)
    by (inl both) = inl (Some text ∷ [], (both.0, both.1, refl))
    by (inr neither) = inr (λ is. neither (is.1.0, is.1.1))
accepted_decided answer ignore_case (RegExp (Ok engine)) text = engine_decided (answer engine text)
accepted_decided answer ignore_case (RegExp (Err error)) text = inr (λ is. is.1)

-- ---- results

pub answered : {E : Type 0} (answer : E → List ℕ → Option Captures) (matcher : MatcherView E) (text : List ℕ) → (result : Option Captures) × Returns answer matcher text result
answered {E} answer matcher text = by_middle (cut_decided matcher text)
  where
    by_inner : (middle : List ℕ) → HasMiddle matcher text middle → Decided (IsAccepted answer matcher.ignore_case matcher.inner middle) → (result : Option Captures) × Returns answer matcher text result
    by_inner middle has (inl (captures, accepts)) = (Some captures, (middle, has, accepts))
    by_inner middle has (inr neither) = (
      None,
      λ captures matches.
          neither (captures, subst (λ (t : List ℕ). Accepts answer matcher.ignore_case matcher.inner t captures) (middle-one matcher text matches.0 middle matches.1 has) matches.2),
    )

    by_middle : Decided (IsCut matcher text) → (result : Option Captures) × Returns answer matcher text result
    by_middle (inl (middle, has)) = by_inner middle has (accepted_decided answer matcher.ignore_case matcher.inner middle)
    by_middle (inr neither) = (None, λ captures matches. neither (matches.0, matches.1))
