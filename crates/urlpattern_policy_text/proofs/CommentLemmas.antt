-- Lemmas on comments in values.
use Rattle.std.proofs.Common.{◌≡◌, ◌∙◌, ◌<◌, ◌+◌, ◌-◌, ◌∷◌, ℕ, zero, suc, false, List, [], ap, arith, drop, length, length-drop, refl, subst, take, take_all}
use Rattle.urlpattern_policy_text.specs.Statements.{has_comment, is_comment_next}

comment_later : (text : List ℕ) (index : ℕ) → index < length text → is_comment_next (drop index text) ≡ false → has_comment (drop index text) ≡ has_comment (drop (index + 1) text)
comment_later [] index within is = absurd (omega (arith, within))
comment_later (first ∷ text) zero within is = rw is refl
comment_later (first ∷ text) (suc index) within is =
    let next : suc (index + 1) ≡ suc index + 1 = omega arith in comment_later text index (omega (arith, within)) is ∙ ap (λ n. has_comment (drop n (first ∷ text))) next

-- No comment begins at the index.
pub comment_past : (text : List ℕ) (index : ℕ) → index < length text → is_comment_next (take (length text - index) (drop index text)) ≡ false → has_comment (drop index text) ≡ has_comment (drop (index + 1) text)
comment_past text index within is =
    let count : length (drop index text) ≡ length text - index = length-drop index text in
    comment_later text index within (subst (λ (rest : List ℕ). is_comment_next rest ≡ false) (take_all (length text - index) (drop index text) (omega (arith, count))) is)
