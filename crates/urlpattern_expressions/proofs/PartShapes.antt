-- The texts of a custom part's shape are those that the part matches.
use Rattle.std.proofs.Common.{◌≡◌, ◌↔◌, ◌≤◌, ℕ, zero, suc, true, List, [], ◌∷◌, ◌++◌, ◌⊎◌, inl, inr, refl, sym, ap, ◌∙◌, subst, append_assoc, append-nil, arith}
use Rattle.std.proofs.lemmas.Bool.{and_from, and_parts}
use lib.Utf8.{scalar, scalars}
use Rattle.urlpattern_expressions.proofs.ShapeTexts.{spelled_takes, takes_spelled}
use Rattle.urlpattern_expressions.specs.MatchedPartTexts.{IsMatchedCopy}
use Rattle.urlpattern_expressions.specs.Shapes.{IsShapeOf, IsShapeOfPart, Shape, Takes, allowed, part_shape, sequence, several, spelled}
use Rattle.urlpattern_meaning.specs.PartMeaning.{Allows}
use Rattle.urlpattern_syntax.specs.{Options.OptionsView, Parts.PartView}
use Rattle.urlpattern_syntax.specs.declared.parser.{PartModifier.PartModifier, PartType.PartType}
use Rattle.urlpattern_syntax.specs.Text.{IsRepeated}

-- ---- characters

-- Substrings of a text of characters are texts of characters.
pub scalars_parts : (first rest : List ℕ) → scalars (first ++ rest) ≡ true → (scalars first ≡ true) × (scalars rest ≡ true)
scalars_parts [] rest h = (refl, h)
scalars_parts (c ∷ first) rest h =
    let both = and_parts _ _ h in
    let more = scalars_parts first rest both.1 in
    (and_from (scalar c) (scalars first) both.0 more.0, more.1)

cut_scalars : (text first rest : List ℕ) → text ≡ first ++ rest → scalars text ≡ true → (scalars first ≡ true) × (scalars rest ≡ true)
cut_scalars text first rest cut good = scalars_parts first rest (ap scalars (sym cut) ∙ good)

-- Repeated texts, of which each is of the other kind too.
repeated_weaker : (A B : List ℕ → Type 0) → ((text : List ℕ) → scalars text ≡ true → A text → B text) → (n : ℕ) (text : List ℕ) → scalars text ≡ true → IsRepeated A n text → IsRepeated B n text
repeated_weaker A B weaker zero text good ended = ended
repeated_weaker A B weaker (suc n) text good (first, rest, cut, is, more) =
    let both = cut_scalars text first rest cut good in
    (first, rest, cut, weaker first both.0 is, repeated_weaker A B weaker n rest both.1 more)

-- ---- one copy

copy_takes : (options : OptionsView) (part : PartView) (one : Shape) → IsShapeOf part.value one → (text : List ℕ) → scalars text ≡ true →
    Takes (sequence (spelled part.prefix) (sequence one (spelled part.suffix))) text ↔ IsMatchedCopy options PartType.Regexp part text
copy_takes options part one is text good = (
  λ (front, rest, cut, before, (piece, back, other, takes, after)).
      let both = cut_scalars text front rest cut good in
      let inner = cut_scalars rest piece back other both.1 in
      let whole : text ≡ part.prefix ++ piece ++ part.suffix = cut ∙ ap (λ t. t ++ rest) (takes_spelled part.prefix front before) ∙ ap (λ t. part.prefix ++ t) (other ∙ ap (λ t. piece ++ t) (takes_spelled part.suffix back after)) ∙ sym (append_assoc part.prefix piece part.suffix) in
      (piece, whole, (is piece inner.0).0 takes),
  λ (piece, cut, matches).
      let whole : text ≡ part.prefix ++ (piece ++ part.suffix) = cut ∙ append_assoc part.prefix piece part.suffix in
      let both = cut_scalars text part.prefix (piece ++ part.suffix) whole good in
      let inner = scalars_parts piece part.suffix both.1 in
      (part.prefix, piece ++ part.suffix, whole, spelled_takes part.prefix, (piece, part.suffix, refl, (is piece inner.0).1 matches, spelled_takes part.suffix)),
)

-- ---- copies

once : (Is : List ℕ → Type 0) (text : List ℕ) → Is text → IsRepeated Is 1 text
once Is text is = (text, [], sym (append-nil text), is, refl)

only_one : (Is : List ℕ → Type 0) (text : List ℕ) → IsRepeated Is 1 text → Is text
only_one Is text (first, rest, cut, is, ended) = subst Is (sym (cut ∙ ap (λ t. first ++ t) ended ∙ append-nil first)) is

module _ (Is : List ℕ → Type 0) (one : Shape) (same : (text : List ℕ) → scalars text ≡ true → Takes one text ↔ Is text) where
  several_takes : (text : List ℕ) → scalars text ≡ true → Takes (several one) text ↔ ((n : ℕ) × IsRepeated Is (suc n) text)
  several_takes text good = (
    λ (n, takes). (n, repeated_weaker (Takes one) Is (λ t g. (same t g).0) (suc n) text good takes),
    λ (n, are). (n, repeated_weaker Is (Takes one) (λ t g. (same t g).1) (suc n) text good are),
  )

  at_most_one : (n : ℕ) (text : List ℕ) → n ≤ 1 → IsRepeated Is n text → Is text ⊎ (text ≡ [])
  at_most_one zero text le are = inr are
  at_most_one (suc zero) text le are = inl (only_one Is text are)
  at_most_one (suc (suc n)) text le are = absurd (omega arith)

  some_copies : (n : ℕ) (text : List ℕ) → 1 ≤ n → IsRepeated Is n text → (m : ℕ) × IsRepeated Is (suc m) text
  some_copies zero text le are = absurd (omega arith)
  some_copies (suc n) text le are = (n, are)

  any_copies : (n : ℕ) (text : List ℕ) → IsRepeated Is n text → ((m : ℕ) × IsRepeated Is (suc m) text) ⊎ (text ≡ [])
  any_copies zero text are = inr are
  any_copies (suc n) text are = inl (n, are)

  allowed_takes : (modifier : PartModifier) (text : List ℕ) → scalars text ≡ true → Takes (allowed modifier one) text ↔ ((n : ℕ) × Allows modifier n × IsRepeated Is n text)
  allowed_takes PartModifier.None text good =
      let here = same text good in (
        λ takes. (1, refl, once Is text (here.0 takes)),
        λ (n, e, are). here.1 (only_one Is text (subst (λ (m : ℕ). IsRepeated Is m text) e are)),
      )
  allowed_takes PartModifier.Optional text good =
      let here = same text good in (
        λ takes. elim takes [
          | inl is ↦ (1, omega arith, once Is text (here.0 is))
          | inr ended ↦ (0, omega arith, ended)
        ],
        λ (n, le, are). elim (at_most_one n text le are) [
          | inl is ↦ inl (here.1 is)
          | inr ended ↦ inr ended
        ],
      )
  allowed_takes PartModifier.OneOrMore text good =
      let more = several_takes text good in (
        λ takes. let found = more.0 takes in (suc found.0, omega arith, found.1),
        λ (n, le, are). more.1 (some_copies n text le are),
      )
  allowed_takes PartModifier.ZeroOrMore text good =
      let more = several_takes text good in (
        λ takes. elim takes [
          | inl some ↦ let found = more.0 some in (suc found.0, tt, found.1)
          | inr ended ↦ (0, tt, ended)
        ],
        λ (n, any, are). elim (any_copies n text are) [
          | inl some ↦ inl (more.1 some)
          | inr ended ↦ inr ended
        ],
      )

-- The shape of a custom part has the texts that it matches.
pub part_takes : (part : PartView) (one : Shape) → part.kind ≡ PartType.Regexp → IsShapeOf part.value one → IsShapeOfPart part (part_shape part one)
part_takes part one custom is options text good =
    subst (λ (kind : PartType). Takes (part_shape part one) text ↔ ((n : ℕ) × Allows part.modifier n × IsRepeated (IsMatchedCopy options kind part) n text)) (sym custom)
    (allowed_takes (IsMatchedCopy options PartType.Regexp part) (sequence (spelled part.prefix) (sequence one (spelled part.suffix))) (copy_takes options part one is) part.modifier text good)
