-- Lemmas on lines that are read in parts.
use Rattle.std.proofs.Common.{◌≡◌, ℕ, ◌<◌, ◌↔◌, Bool, true, false, List, [], ◌∷◌, ◌++◌, IsTrue, Option, None, Some, length, refl, sym, ap, subst, ◌∙◌, arith, append_assoc, length-append, inl, inr, not, ne_eqb}
use Rattle.std.specs.Prelude.{MatchBool, nat_eq}
use Rattle.std.specs.Io.KnownBytes.{Consumes}
use Rattle.std.specs.Io.BufRead.{take_through}
use Rattle.std.proofs.BufReadLemmas.{take_through-nil, take_through_nonempty}
use Rattle.urlpat_matching.specs.Lines.{IsAppended, IsLineKept, longest}

-- Two reads consume one text after the other.
pub consumes-both : (a b c : Option (List ℕ)) (first second : List ℕ) → Consumes a b first → Consumes b c second → Consumes a c (first ++ second)
consumes-both None b c first second p q = tt
consumes-both (Some x) None c first second p q = absurd p
consumes-both (Some x) (Some y) None first second p q = absurd q
consumes-both (Some x) (Some y) (Some z) first second p q = p ∙ ap (λ l. first ++ l) q ∙ sym (append_assoc first second z)

-- The kept part of a line after a part is appended.
pub kept-appended : (old new line part : List ℕ) → IsLineKept old line → IsAppended old new part → IsLineKept new (line ++ part)
kept-appended old new line part (inl same) (inl grown) = inl (grown ∙ ap (λ l. l ++ part) same)
kept-appended old new line part (inl same) (inr stays) =
    inr (subst (λ l. longest < length l) (sym stays.1) stays.0, omega (arith, length-append line part, stays.0, ap length same))
kept-appended old new line part (inr long) (inl grown) =
    inr (omega (arith, ap length grown, length-append old part, long.0), omega (arith, length-append line part, long.1))
kept-appended old new line part (inr long) (inr stays) =
    inr (subst (λ l. longest < length l) (sym stays.1) stays.0, omega (arith, length-append line part, long.1))

-- If the kept part of a line is not empty, bytes were left.
pub kept-some : (kept bytes : List ℕ) → IsLineKept kept (take_through 10 bytes) → 0 < length kept → 0 < length bytes
kept-some kept bytes (inl same) some = take_through_nonempty 10 bytes (subst (λ l. 0 < length l) same some)
kept-some kept bytes (inr long) some = take_through_nonempty 10 bytes (omega (arith, long.1))

pub kept-none : (kept bytes : List ℕ) → IsLineKept kept (take_through 10 bytes) → length kept ≡ 0 → length bytes ≡ 0
kept-none kept bytes (inl same) none = ap length (take_through-nil 10 bytes (sym (ap length same) ∙ none))
kept-none kept bytes (inr long) none = absurd (omega (arith, long.0))

-- The kept part of a line is not empty exactly if bytes were left.
pub kept-more : (kept bytes : List ℕ) (more : Bool) → more ≡ not (nat_eq (length kept) 0) → IsLineKept kept (take_through 10 bytes) → IsTrue more ↔ 0 < length bytes
kept-more [] bytes more is kept = (
  λ yes. let not_so : false ≡ true = sym is ∙ yes in absurd (cc),
  λ some. let none = kept-none [] bytes kept refl in absurd (omega (arith, none, some)),
)
kept-more (x ∷ xs) bytes more is kept = (λ yes. kept-some (x ∷ xs) bytes kept (omega arith), λ some. is ∙ ap not (ne_eqb (length (x ∷ xs)) 0 (λ none. absurd (omega (arith, none)))))

-- The cases of a boolean.
pub on-true : (b : Bool) (P Q : Type 0) → b ≡ true → MatchBool b P Q → P
on-true b P Q is h = subst (λ c. MatchBool c P Q) is h

pub on-false : (b : Bool) (P Q : Type 0) → b ≡ false → MatchBool b P Q → Q
on-false b P Q is h = subst (λ c. MatchBool c P Q) is h
