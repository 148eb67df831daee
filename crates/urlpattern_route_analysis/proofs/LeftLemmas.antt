-- What is left to look at while cases are gone through.
use Rattle.std.proofs.Common.{◌≡◌, ◌∙◌, ◌⊎◌, Bool, true, false, true≢false, List, [], ◌∷◌, ◌++◌, inl, inr, refl, subst, sym}
use Rattle.std.proofs.lemmas.Bool.{cases_Bool}
use Rattle.std.proofs.lemmas.List.Elements.{All-cons, All-head, All-nil, All-tail}
use Rattle.std.specs.Prelude.{All}
use Rattle.urlpattern_route_analysis.specs.Cases.{AreSo, IsTurned, LiteralView}
use Rattle.urlpattern_route_analysis.specs.Formulas.{AtomView}

-- The case of the literals and those after it are left to look at, and `is` is of one of them: it
-- is as the literals say, or otherwise at the first one of which `is` says otherwise, which holds.
abbrev pub IsLeft : (is : AtomView → Bool) → List LiteralView → Type 0
IsLeft is [] = Unit {0}
IsLeft is (it ∷ rest) = ((is it.atom ≡ it.holds) × IsLeft is rest) ⊎ ((it.holds ≡ true) × (is it.atom ≡ false))

abbrev pub held : AtomView → LiteralView
held atom = record { atom = atom; holds = true }

abbrev pub refused : AtomView → LiteralView
refused atom = record { atom = atom; holds = false }

module _ (is : AtomView → Bool) where
  abbrev IsSo : LiteralView → Type 0
  IsSo it = is it.atom ≡ it.holds

  -- An atom is taken to hold.
  pub left_more : (literals : List LiteralView) (atom : AtomView) → IsLeft is literals → IsLeft is (literals ++ held atom ∷ [])
  left_more [] atom left = elim (cases_Bool (is atom)) [ inl so ↦ inl (so, tt) | inr not_so ↦ inr (refl, not_so) ]
  left_more (it ∷ rest) atom (inl (so, left)) = inl (so, left_more rest atom left)
  left_more (it ∷ rest) atom (inr other) = inr other

  pub all_so : (literals : List LiteralView) → IsLeft is literals → All (λ it. it.holds ≡ false) literals → AreSo is literals
  all_so [] left none = All-nil IsSo
  all_so (it ∷ rest) (inl (so, left)) none = All-cons IsSo it rest so (all_so rest left (All-tail (λ l. l.holds ≡ false) it rest none))
  all_so (it ∷ rest) (inr (held, not_so)) none = absurd (true≢false (sym held ∙ All-head (λ l. l.holds ≡ false) it rest none))

  -- Where the literals are not so, the next case is left.
  turned : (front : List LiteralView) (atom : AtomView) (back : List LiteralView) → All (λ it. it.holds ≡ false) back → ¬ AreSo is (front ++ held atom ∷ back)
      → IsLeft is (front ++ held atom ∷ back) → IsLeft is (front ++ refused atom ∷ [])
  turned [] atom back none not_so (inl (so, left)) = absurd (not_so (All-cons IsSo (held atom) back so (all_so back left none)))
  turned [] atom back none not_so (inr (holds, fails)) = inl (fails, tt)
  turned (it ∷ front) atom back none not_so (inl (so, left)) =
      inl (so, turned front atom back none (λ rest. not_so (All-cons IsSo it (front ++ held atom ∷ back) so rest)) left)
  turned (it ∷ front) atom back none not_so (inr other) = inr other

  pub left_turned : (old new : List LiteralView) → IsTurned old new true → ¬ AreSo is old → IsLeft is old → IsLeft is new
  left_turned old new (front, atom, back, was, none, now) not_so left =
      subst (IsLeft is) (sym now) (turned front atom back none (subst (λ l. ¬ AreSo is l) was not_so) (subst (IsLeft is) was left))

  -- At the end nothing is left but the last case.
  pub left_at_end : (old new : List LiteralView) → IsTurned old new false → IsLeft is old → AreSo is old
  left_at_end old new none left = all_so old left none
