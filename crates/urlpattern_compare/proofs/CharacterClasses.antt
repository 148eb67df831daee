-- Characters that tests name.
use Rattle.std.proofs.Common.{◌≡◌, ◌≢◌, ℕ, Bool, true, false, List, [], ◌∷◌, ◌⊎◌, refl, sym, subst, ap, ◌∙◌, inl, inr, arith, eq-eqb, eqb-true, ne_eqb}
use Rattle.std.proofs.lemmas.Str.Ascii.{uppercase_is}
use Rattle.std.specs.Char.{to_ascii_lowercase, to_ascii_uppercase}
use Rattle.std.specs.List.{Contains}
use Rattle.std.specs.Prelude.{◌==◌, ◌||◌}
use Rattle.urlpattern_syntax.specs.Text.{is_among}
use Rattle.urlpattern_meaning.proofs.FoldedTrees.{moved_or_same}
use Rattle.urlpattern_compare.proofs.StateSets.{contains_cons, contains_head, contains_tail}

-- Two characters that differ from a third are equally unlike it.
pub unlike_same : (mark c other : ℕ) → c ≢ mark → other ≢ mark → (c == mark) ≡ (other == mark)
unlike_same mark c other h k = ne_eqb c mark h ∙ sym (ne_eqb other mark k)

-- A character that is another in lower case is that one, or that one in upper case.
pub lower_cases : (c d : ℕ) → to_ascii_lowercase c ≡ d → (c ≡ d) ⊎ (c ≡ to_ascii_uppercase d)
lower_cases c d e = elim (moved_or_same c) [
  | inl (at_least, at_most, moved) ↦
      let back = (uppercase_is d).0 (omega (arith, moved, e, at_least), omega (arith, moved, e, at_most)) in
      inr (omega (arith, moved, e, back))
  | inr same ↦ inl (sym same ∙ e)
]

among_cases : (mark : ℕ) (marks : List ℕ) (c : ℕ) (b : Bool) → (mark == c) ≡ b → (is_among marks c ≡ true → Contains marks c) → (b || is_among marks c) ≡ true → Contains (mark ∷ marks) c
among_cases mark marks c true e later h = subst (Contains (mark ∷ marks)) (eqb-true mark c e) (contains_head mark marks)
among_cases mark marks c false e later h = contains_tail mark c marks (later h)

pub among_contains : (marks : List ℕ) (c : ℕ) → is_among marks c ≡ true → Contains marks c
among_contains [] c h = absurd cc
among_contains (mark ∷ marks) c h = among_cases mark marks c (mark == c) refl (among_contains marks c) h

pub or_true : (b : Bool) → (b || true) ≡ true
or_true true = refl
or_true false = refl

pub contains_among : (marks : List ℕ) (c : ℕ) → Contains marks c → is_among marks c ≡ true
contains_among [] c (k, lt, e) = absurd (omega arith)
contains_among (mark ∷ marks) c h = elim (contains_cons mark c marks h) [
  | inl e ↦ ap (λ b. b || is_among marks c) (eq-eqb mark c e)
  | inr later ↦ ap (λ b. (mark == c) || b) (contains_among marks c later) ∙ or_true (mark == c)
]

pub unlike : (classes : List ℕ) (c mark : ℕ) → is_among classes c ≡ false → Contains classes mark → c ≢ mark
unlike classes c mark h has e = let k = contains_among classes mark has in let j : is_among classes mark ≡ false = subst (λ m. is_among classes m ≡ false) e h in absurd cc
