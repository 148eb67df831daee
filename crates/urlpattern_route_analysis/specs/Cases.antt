-- Cases: lists of atoms that hold, and of those that do not.
use Rattle.std.specs.Borrow.{Bor}
use Rattle.std.specs.Prelude.{◌≡◌, ◌<◌, ◌==◌, ◌++◌, ℕ, suc, All, Bool, true, false, IsTrue, List, [], ◌∷◌, None, Option, Some, Result, Ok, Err, length, map, ok_or, option_map, if◌then◌else◌}
use Rattle.std.specs.Str.{bytes_eq}
use Rattle.urlpattern_compare.specs.TextSearch.{AreUnlike}
use Rattle.urlpattern_route_analysis.specs.Formulas.{AtomView, FormulaView, FormulaViews, atom_view, first_to_hold, formula, no_formulas, of_atom, of_name, of_none, of_url}
use Rattle.urlpattern_route_analysis.specs.declared.case.Literal.{Literal}
use Rattle.urlpattern_route_analysis.specs.declared.formula.Atom.{Atom}

-- An atom, and whether it holds.
pub record LiteralView : Type 0 where
  pub atom : AtomView
  pub holds : Bool

abbrev pub literal_view : Literal → LiteralView
literal_view it = record { atom = atom_view it.atom.now; holds = it.holds }

abbrev pub literal_views : List Literal → List LiteralView
literal_views literals = map literal_view literals

-- Atoms hold as the literals say.
abbrev pub AreSo : (is : AtomView → Bool) → List LiteralView → Type 0
AreSo is literals = All (λ it. is it.atom ≡ it.holds) literals

-- An attribute has at most one name.
abbrev pub HasOneName : (is : AtomView → Bool) → Type 0
HasOneName is =
    (attribute : ℕ) (name other : List ℕ) → IsTrue (is (of_name attribute name))
    → IsTrue (is (of_name attribute other)) → name ≡ other

-- Where the literals are so, these two rules decide.
abbrev pub Determine : List LiteralView → (ones others : List FormulaView)
    → (one other : Option ℕ) → Type 0
Determine literals ones others one other =
    (is : AtomView → Bool) → HasOneName is → AreSo is literals
    → (first_to_hold is ones ≡ one) × (first_to_hold is others ≡ other)

-- ---- what is known in a case

-- Whether one atom holds where another one is known to hold, or not to. None: that is not known.
abbrev pub told_name : (is_same holds : Bool) → Option Bool
told_name true holds = Some holds
told_name false true = Some false
told_name false false = None

abbrev pub told_of : AtomView → (holds : Bool) → AtomView → Option Bool
told_of (of_url own) holds (of_url other) = if own == other then Some holds else None
told_of (of_name own name) holds (of_name other asked) =
    if own == other then told_name (bytes_eq name asked) holds else None
told_of own holds other = None

abbrev pub told : LiteralView → AtomView → Option Bool
told it atom = told_of it.atom it.holds atom

-- The first of what literals tell.
abbrev pub first_told : List (Option Bool) → Option Bool
first_told [] = None
first_told (None ∷ rest) = first_told rest
first_told (Some holds ∷ rest) = Some holds

-- Whether an atom holds where the literals are so. None: that is not known.
abbrev pub known_atom : List LiteralView → AtomView → Option Bool
known_atom literals atom = first_told (map (λ it. told it atom) literals)

-- The atom that is asked for first, by what is known of the formulas before: a name before a
-- pattern, else the earlier atom.
abbrev pub preferred : (before : Result Bool AtomView) → (atom : AtomView) → AtomView
preferred (Ok holds) atom = atom
preferred (Err (of_url pattern)) (of_name attribute name) = of_name attribute name
preferred (Err first) atom = first

-- What is known of none of some formulas, by what is known of those before one, and of that one.
abbrev pub and_not : (before one : Result Bool AtomView) → Result Bool AtomView
and_not (Ok false) one = Ok false
and_not before (Ok true) = Ok false
and_not before (Ok false) = before
and_not before (Err atom) = Err (preferred before atom)

abbrev mutual
  -- Whether a formula holds where the literals are so, or the atom for which this has to be known
  -- first.
  pub known : List LiteralView → FormulaView → Result Bool AtomView
  known literals (of_atom atom) = ok_or (known_atom literals atom) atom
  known literals (of_none formulas) = known_none literals (Ok true) formulas

  -- Whether neither those before nor the formulas hold.
  pub known_none : List LiteralView → (before : Result Bool AtomView) → FormulaViews
      → Result Bool AtomView
  known_none literals before no_formulas = before
  known_none literals before (formula one rest) =
      known_none literals (and_not before (known literals one)) rest

-- The first formula that holds, by what is known of one and of those after it.
abbrev pub first_known : Result Bool AtomView → (later : Result (Option ℕ) AtomView)
    → Result (Option ℕ) AtomView
first_known (Ok true) later = Ok (Some 0)
first_known (Ok false) (Ok index) = Ok (option_map (λ i. suc i) index)
first_known (Ok false) (Err atom) = Err atom
first_known (Err atom) later = Err atom

-- The first formula that holds where the literals are so, or the atom for which this has to be
-- known first.
abbrev pub known_first : List LiteralView → List FormulaView → Result (Option ℕ) AtomView
known_first literals [] = Ok None
known_first literals (one ∷ rest) = first_known (known literals one) (known_first literals rest)

abbrev pub pair_known : (one other : Result (Option ℕ) AtomView)
    → Result (Option ℕ × Option ℕ) AtomView
pair_known (Ok one) (Ok other) = Ok (one, other)
pair_known (Ok one) (Err atom) = Err atom
pair_known (Err atom) other = Err atom

-- The rules of both tables that decide where the literals are so, or the atom for which this has to
-- be known first.
abbrev pub known_both : List LiteralView → (ones others : List FormulaView)
    → Result (Option ℕ × Option ℕ) AtomView
known_both literals ones others =
    pair_known (known_first literals ones) (known_first literals others)

-- The view of what is known, or of the atom.
abbrev pub asked_view : {A : Type 0} → Result A (Bor Atom) → Result A AtomView
asked_view (Ok known) = Ok known
asked_view (Err atom) = Err (atom_view atom.now)

-- ---- the next case

-- `new` is `old` up to its last literal that holds, which does not hold in `new`. false: there is
-- none.
abbrev pub IsTurned : (old new : List LiteralView) → (is_next : Bool) → Type 0
IsTurned old new true =
    (front : List LiteralView) × (atom : AtomView) × (back : List LiteralView)
    × (old ≡ front ++ record { atom = atom; holds = true } ∷ back)
    × All (λ it. it.holds ≡ false) back
    × (new ≡ front ++ record { atom = atom; holds = false } ∷ [])
IsTurned old new false = All (λ it. it.holds ≡ false) old

-- ---- how many cases there are

-- Each literal is of the atom that has to be known first after those before it, which are after
-- these.
abbrev pub IsCaseAfter : (ones others : List FormulaView) → (before : List LiteralView)
    → List LiteralView → Type 0
IsCaseAfter ones others before [] = Unit {0}
IsCaseAfter ones others before (it ∷ rest) =
    (known_both before ones others ≡ Err it.atom)
    × IsCaseAfter ones others (before ++ it ∷ []) rest

-- Each literal is of the atom that has to be known first after those before it.
abbrev pub IsCase : (ones others : List FormulaView) → List LiteralView → Type 0
IsCase ones others literals = IsCaseAfter ones others [] literals

-- More than `most` cases of two tables exist.
abbrev pub NeedManyCases : (ones others : List FormulaView) → (most : ℕ) → Type 0
NeedManyCases ones others most =
    (cases : List (List LiteralView)) × (most < length cases)
    × AreUnlike (λ one other. one ≡ other) cases × All (IsCase ones others) cases

-- ---- patterns that exist

abbrev mutual
  -- Each pattern that the formula asks for is one of so many.
  pub IsWithin : (count : ℕ) → FormulaView → Type 0
  IsWithin count (of_atom (of_url pattern)) = pattern < count
  IsWithin count (of_atom (of_name attribute name)) = Unit {0}
  IsWithin count (of_none formulas) = AllWithin count formulas

  pub AllWithin : (count : ℕ) → FormulaViews → Type 0
  AllWithin count no_formulas = Unit {0}
  AllWithin count (formula one rest) = IsWithin count one × AllWithin count rest

-- The pattern of each literal that is of one is one of so many.
abbrev pub AreLiteralsWithin : (count : ℕ) → List LiteralView → Type 0
AreLiteralsWithin count literals = All (λ it. IsWithin count (of_atom it.atom)) literals
