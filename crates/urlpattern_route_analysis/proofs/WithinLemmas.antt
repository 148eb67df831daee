-- Atoms that have to be known are of formulas, so that their patterns exist.
use Rattle.std.proofs.Common.{◌≡◌, ◌≤◌, ℕ, Bool, true, false, List, [], ◌∷◌, ◌++◌, None, Option, Some, Result, Ok, Err, arith, refl, subst, sym}
use Rattle.std.proofs.lemmas.List.Elements.{All-cons, All-head, All-nil, All-tail, All-weaker}
use Rattle.std.specs.Prelude.{All, ok_or}
use Rattle.urlpattern_route_analysis.proofs.LeftLemmas.{held, refused}
use Rattle.urlpattern_route_analysis.specs.Cases.{AllWithin, AreLiteralsWithin, IsTurned, IsWithin, LiteralView, and_not, first_known, known, known_atom, known_both, known_first, known_none, pair_known, preferred}
use Rattle.urlpattern_route_analysis.specs.Formulas.{AtomView, FormulaView, FormulaViews, formula, no_formulas, of_atom, of_name, of_none, of_url, opposites_if}

module _ (literals : List LiteralView) (count : ℕ) where
  -- The atom that has to be known is one of the patterns, or of a name.
  abbrev AsksIn : {A : Type 0} → Result A AtomView → Type 0
  AsksIn asked = (atom : AtomView) → asked ≡ Err atom → IsWithin count (of_atom atom)

  either : (first atom : AtomView) → IsWithin count (of_atom first) → IsWithin count (of_atom atom) → IsWithin count (of_atom (preferred (Err first) atom))
  either (of_url pattern) (of_url other) own also = own
  either (of_url pattern) (of_name attribute name) own also = also
  either (of_name own_attribute own_name) atom own also = own

  step : (before one : Result Bool AtomView) → AsksIn before → AsksIn one → AsksIn (and_not before one)
  step (Ok false) one own also atom is = absurd cc
  step (Ok true) (Ok true) own also atom is = absurd cc
  step (Ok true) (Ok false) own also atom is = absurd cc
  step (Ok true) (Err second) own also atom is = also atom is
  step (Err first) (Ok true) own also atom is = absurd cc
  step (Err first) (Ok false) own also atom is = own atom is
  step (Err first) (Err second) own also atom is =
      let same : preferred (Err first) second ≡ atom = cc in subst (λ a. IsWithin count (of_atom a)) same (either first second (own first refl) (also second refl))

  of_found : (own : AtomView) (found : Option Bool) → IsWithin count (of_atom own) → AsksIn (ok_or found own)
  of_found own None within atom is = let same : own ≡ atom = cc in subst (λ a. IsWithin count (of_atom a)) same within
  of_found own (Some v) within atom is = absurd cc

  mutual
    known_asks : (one : FormulaView) → IsWithin count one → AsksIn (known literals one)
    known_asks (of_atom own) within = of_found own (known_atom literals own) within
    known_asks (of_none formulas) within = none_asks formulas within (Ok true) (λ atom is. absurd cc)

    none_asks : (formulas : FormulaViews) → AllWithin count formulas → (before : Result Bool AtomView) → AsksIn before → AsksIn (known_none literals before formulas)
    none_asks no_formulas within before own = own
    none_asks (formula one rest) within before own = none_asks rest within.1 (and_not before (known literals one)) (step before (known literals one) own (known_asks one within.0))

  first_step : (one : Result Bool AtomView) (later : Result (Option ℕ) AtomView) → AsksIn one → AsksIn later → AsksIn (first_known one later)
  first_step (Ok true) later own also atom is = absurd cc
  first_step (Ok false) (Ok index) own also atom is = absurd cc
  first_step (Ok false) (Err second) own also atom is = also atom is
  first_step (Err first) later own also atom is = own atom (cc)

  first_asks : (formulas : List FormulaView) → All (IsWithin count) formulas → AsksIn (known_first literals formulas)
  first_asks [] within = λ atom is. absurd cc
  first_asks (one ∷ rest) within =
      first_step (known literals one) (known_first literals rest) (known_asks one (All-head (IsWithin count) one rest within)) (first_asks rest (All-tail (IsWithin count) one rest within))

  pub asks_within : (ones others : List FormulaView) → All (IsWithin count) ones → All (IsWithin count) others → AsksIn (known_both literals ones others)
  asks_within ones others own also = by (known_first literals ones) (known_first literals others) (first_asks ones own) (first_asks others also)
    where
      by : (first second : Result (Option ℕ) AtomView) → AsksIn first → AsksIn second → AsksIn (pair_known first second)
      by (Ok one) (Ok other) own also atom is = absurd cc
      by (Ok one) (Err second) own also atom is = also atom (cc)
      by (Err first) second own also atom is = own atom (cc)

-- The next case is of atoms of this one.
pub within_turned : (count : ℕ) (old new : List LiteralView) → IsTurned old new true → AreLiteralsWithin count old → AreLiteralsWithin count new
within_turned count old new (front, atom, back, was, none, now) within =
    subst (AreLiteralsWithin count) (sym now) (by front (subst (AreLiteralsWithin count) was within))
  where
    by : (front : List LiteralView) → AreLiteralsWithin count (front ++ held atom ∷ back) → AreLiteralsWithin count (front ++ refused atom ∷ [])
    by [] each =
        All-cons (λ it. IsWithin count (of_atom it.atom)) (refused atom) [] (All-head (λ it. IsWithin count (of_atom it.atom)) (held atom) back each) (All-nil (λ it. IsWithin count (of_atom it.atom)))
    by (it ∷ front) each =
        All-cons (λ it. IsWithin count (of_atom it.atom)) it (front ++ refused atom ∷ []) (All-head (λ it. IsWithin count (of_atom it.atom)) it (front ++ held atom ∷ back) each)
        (by front (All-tail (λ it. IsWithin count (of_atom it.atom)) it (front ++ held atom ∷ back) each))

mutual
  longer_one : (count most : ℕ) → count ≤ most → (one : FormulaView) → IsWithin count one → IsWithin most one
  longer_one count most le (of_atom (of_url pattern)) within = omega (arith, le, within)
  longer_one count most le (of_atom (of_name attribute name)) within = tt
  longer_one count most le (of_none formulas) within = longer_each count most le formulas within

  longer_each : (count most : ℕ) → count ≤ most → (formulas : FormulaViews) → AllWithin count formulas → AllWithin most formulas
  longer_each count most le no_formulas within = tt
  longer_each count most le (formula one rest) within = (longer_one count most le one within.0, longer_each count most le rest within.1)

-- Formulas over some patterns are over more of them too.
pub within_longer : (count most : ℕ) → count ≤ most → (formulas : List FormulaView) → All (IsWithin count) formulas → All (IsWithin most) formulas
within_longer count most le formulas within = All-weaker (IsWithin count) (IsWithin most) (λ one own. longer_one count most le one own) formulas within

-- Opposites of formulas are over the patterns that the formulas are over.
pub opposites_within : (count : ℕ) (formulas : FormulaViews) → AllWithin count formulas → AllWithin count (opposites_if true formulas)
opposites_within count no_formulas within = tt
opposites_within count (formula one rest) within = ((within.0, tt), opposites_within count rest within.1)
