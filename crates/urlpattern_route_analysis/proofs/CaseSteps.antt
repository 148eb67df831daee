-- Steps of going over formulas and literals.
use Rattle.std.proofs.Common.{◌≡◌, ◌∙◌, ◌+◌, ◌<◌, ℕ, zero, suc, Bool, true, false, List, [], ◌∷◌, None, Some, Result, Ok, Err, add-one, ap, drop, get_or, length, map, option_map, refl, slice_get, subst, sym, take}
use Rattle.std.proofs.lemmas.List.Elements.{All-head, All-more, All-tail}
use Rattle.std.proofs.lemmas.Option.{get_or_from_slice_get, none-some, same_Some, slice_get-map, slice_get_read, slice_get_within}
use Rattle.std.specs.Prelude.{All}
use Rattle.urlpattern_route_analysis.specs.Cases.{LiteralView, and_not, first_known, first_told, known, known_atom, known_first, known_none, literal_view, literal_views, preferred, told}
use Rattle.urlpattern_route_analysis.specs.Formulas.{AtomView, FormulaView, FormulaViews, formula, formula_view, formula_views, listed, no_formulas}
use Rattle.urlpattern_route_analysis.specs.declared.case.Literal.{Literal}
use Rattle.urlpattern_route_analysis.specs.declared.formula.Formula.{Formula}

-- ---- lists

pub all_next : {X : Type 0} (P : X → Type 0) (xs : List X) (i : ℕ) (x : X) → slice_get xs i ≡ Some x → All P (take i xs) → P x → All P (take (i + 1) xs)
all_next P xs i x there all own = All-more P xs i x (slice_get_within xs i x there) all (subst P (sym (get_or_from_slice_get xs i x x there)) own)

drop_at : {X : Type 0} (xs : List X) (i : ℕ) (x : X) → slice_get xs i ≡ Some x → drop i xs ≡ x ∷ drop (suc i) xs
drop_at [] i x there = absurd (none-some x there)
drop_at (y ∷ xs) zero x there = ap (λ z. z ∷ xs) (same_Some y x there)
drop_at (y ∷ xs) (suc i) x there = drop_at xs i x there

pub view_at : (formulas : List Formula) (i : ℕ) (one : Formula) → i < length formulas → one ≡ get_or formulas i one → slice_get (formula_views formulas) i ≡ Some (formula_view one)
view_at formulas i one lt is = slice_get-map formula_view formulas i ∙ ap (option_map formula_view) (slice_get_read formulas (length formulas) i one refl lt is)

pub literal_at : (literals : List Literal) (i : ℕ) (it : Literal) → i < length literals → it ≡ get_or literals i it → slice_get (literal_views literals) i ≡ Some (literal_view it)
literal_at literals i it lt is = slice_get-map literal_view literals i ∙ ap (option_map literal_view) (slice_get_read literals (length literals) i it refl lt is)

-- ---- what literals tell

pub atom_found : (some : List LiteralView) (atom : AtomView) (i : ℕ) (it : LiteralView) (v : Bool) → All (λ l. told l atom ≡ None) (take i some) → slice_get some i ≡ Some it → told it atom ≡ Some v → known_atom some atom ≡ Some v
atom_found [] atom i it v none there is = absurd cc
atom_found (x ∷ rest) atom zero it v none there is =
    let own : told x atom ≡ Some v = ap (λ l. told l atom) (same_Some x it there) ∙ is in ap (λ o. first_told (o ∷ map (λ l. told l atom) rest)) own
atom_found (x ∷ rest) atom (suc i) it v none there is =
    ap (λ o. first_told (o ∷ map (λ l. told l atom) rest)) (All-head (λ l. told l atom ≡ None) x (take i rest) none) ∙ atom_found rest atom i it v (All-tail (λ l. told l atom ≡ None) x (take i rest) none) there is

pub atom_none : (some : List LiteralView) (atom : AtomView) → All (λ l. told l atom ≡ None) some → known_atom some atom ≡ None
atom_none [] atom none = refl
atom_none (x ∷ rest) atom none =
    ap (λ o. first_told (o ∷ map (λ l. told l atom) rest)) (All-head (λ l. told l atom ≡ None) x rest none) ∙ atom_none rest atom (All-tail (λ l. told l atom ≡ None) x rest none)

module _ (literals : List LiteralView) where
  abbrev pub Fails : FormulaView → Type 0
  Fails one = known literals one ≡ Ok false

  -- ---- the first formula that holds

  pub first_found : (formulas : List FormulaView) (i : ℕ) (one : FormulaView) → All Fails (take i formulas) → slice_get formulas i ≡ Some one → known literals one ≡ Ok true → known_first literals formulas ≡ Ok (Some i)
  first_found [] i one fail there is = absurd cc
  first_found (x ∷ rest) zero one fail there is =
      let own : known literals x ≡ Ok true = ap (λ f. known literals f) (same_Some x one there) ∙ is in ap (λ r. first_known r (known_first literals rest)) own
  first_found (x ∷ rest) (suc i) one fail there is =
      let own = All-head Fails x (take i rest) fail in
      let later = first_found rest i one (All-tail Fails x (take i rest) fail) there is in
      ap (λ r. first_known r (known_first literals rest)) own ∙ ap (λ r. first_known (Ok false) r) later

  pub first_asks : (formulas : List FormulaView) (i : ℕ) (one : FormulaView) (atom : AtomView) → All Fails (take i formulas) → slice_get formulas i ≡ Some one → known literals one ≡ Err atom → known_first literals formulas ≡ Err atom
  first_asks [] i one atom fail there is = absurd cc
  first_asks (x ∷ rest) zero one atom fail there is =
      let own : known literals x ≡ Err atom = ap (λ f. known literals f) (same_Some x one there) ∙ is in ap (λ r. first_known r (known_first literals rest)) own
  first_asks (x ∷ rest) (suc i) one atom fail there is =
      let own = All-head Fails x (take i rest) fail in
      let later = first_asks rest i one atom (All-tail Fails x (take i rest) fail) there is in
      ap (λ r. first_known r (known_first literals rest)) own ∙ ap (λ r. first_known (Ok false) r) later

  pub first_none : (formulas : List FormulaView) → All Fails formulas → known_first literals formulas ≡ Ok None
  first_none [] fail = refl
  first_none (x ∷ rest) fail =
      ap (λ r. first_known r (known_first literals rest)) (All-head Fails x rest fail) ∙ ap (λ r. first_known (Ok false) r) (first_none rest (All-tail Fails x rest fail))

  -- ---- none of some formulas

  -- Where one before holds, none does not.
  pub none_false : (formulas : FormulaViews) → known_none literals (Ok false) formulas ≡ Ok false
  none_false no_formulas = refl
  none_false (formula one rest) = none_false rest

  and_true : (before : Result Bool AtomView) → and_not before (Ok true) ≡ Ok false
  and_true (Ok true) = refl
  and_true (Ok false) = refl
  and_true (Err atom) = refl

  -- A formula holds: none of them does not.
  pub none_by : (before : Result Bool AtomView) (one : FormulaView) (rest : List FormulaView) → known literals one ≡ Ok true → known_none literals before (listed (one ∷ rest)) ≡ Ok false
  none_by before one rest is = ap (λ r. known_none literals (and_not before r) (listed rest)) is ∙ ap (λ r. known_none literals r (listed rest)) (and_true before) ∙ none_false (listed rest)

  and_false : (before : Result Bool AtomView) → and_not before (Ok false) ≡ before
  and_false (Ok true) = refl
  and_false (Ok false) = refl
  and_false (Err atom) = refl

  -- None of those before is known to hold.
  abbrev pub IsOpen : Result Bool AtomView → Type 0
  IsOpen (Ok true) = Unit {0}
  IsOpen (Ok false) = ⊥
  IsOpen (Err atom) = Unit {0}

  and_asks : (before : Result Bool AtomView) (atom : AtomView) → IsOpen before → and_not before (Err atom) ≡ Err (preferred before atom)
  and_asks (Ok true) atom open_still = refl
  and_asks (Ok false) atom open_still = absurd open_still
  and_asks (Err first) atom open_still = refl

  -- The formula at a place, and those after it.
  none_at : (before : Result Bool AtomView) (formulas : List FormulaView) (i : ℕ) (one : FormulaView) → slice_get formulas i ≡ Some one
      → known_none literals before (listed (drop i formulas)) ≡ known_none literals (and_not before (known literals one)) (listed (drop (i + 1) formulas))
  none_at before formulas i one there =
      ap (λ (l : List FormulaView). known_none literals before (listed l)) (drop_at formulas i one there) ∙ ap (λ (k : ℕ). known_none literals (and_not before (known literals one)) (listed (drop k formulas))) (sym (add-one i))

  pub none_holds : (before : Result Bool AtomView) (formulas : List FormulaView) (i : ℕ) (one : FormulaView) → slice_get formulas i ≡ Some one → known literals one ≡ Ok true
      → known_none literals before (listed (drop i formulas)) ≡ Ok false
  none_holds before formulas i one there is = ap (λ (l : List FormulaView). known_none literals before (listed l)) (drop_at formulas i one there) ∙ none_by before one (drop (suc i) formulas) is

  pub none_fails : (before : Result Bool AtomView) (formulas : List FormulaView) (i : ℕ) (one : FormulaView) → slice_get formulas i ≡ Some one → known literals one ≡ Ok false
      → known_none literals before (listed (drop i formulas)) ≡ known_none literals before (listed (drop (i + 1) formulas))
  none_fails before formulas i one there is =
      none_at before formulas i one there ∙ ap (λ (r : Result Bool AtomView). known_none literals r (listed (drop (i + 1) formulas))) (ap (λ (r : Result Bool AtomView). and_not before r) is ∙ and_false before)

  pub none_asks : (before : Result Bool AtomView) (formulas : List FormulaView) (i : ℕ) (one : FormulaView) (atom : AtomView) → slice_get formulas i ≡ Some one → known literals one ≡ Err atom → IsOpen before
      → known_none literals before (listed (drop i formulas)) ≡ known_none literals (Err (preferred before atom)) (listed (drop (i + 1) formulas))
  none_asks before formulas i one atom there is open_still =
      none_at before formulas i one there
      ∙ ap (λ (r : Result Bool AtomView). known_none literals r (listed (drop (i + 1) formulas))) (ap (λ (r : Result Bool AtomView). and_not before r) is ∙ and_asks before atom open_still)
