-- What is known where literals are so, is so.
use Rattle.std.proofs.Common.{◌≡◌, ◌∙◌, ℕ, suc, Bool, true, false, true≢false, not, ◌&&◌, ◌||◌, ◌==◌, List, [], ◌∷◌, None, Option, Some, Result, Ok, Err, ap, bytes_eq, inl, inr, map, option_map, refl, subst, sym}
use Rattle.std.proofs.lemmas.Bool.{cases_Bool, eqb-true}
use Rattle.std.proofs.lemmas.List.Elements.{All-head, All-tail}
use Rattle.std.proofs.lemmas.Option.{same_Some}
use Rattle.std.proofs.lemmas.Slice.Eq.{bytes_eq-Decides}
use Rattle.std.specs.Prelude.{ok_or, if◌then◌else◌}
use Rattle.urlpattern_route_analysis.specs.Cases.{AreSo, Determine, HasOneName, LiteralView, and_not, first_known, first_told, known, known_atom, known_both, known_first, known_none, pair_known, told, told_name, told_of}
use Rattle.urlpattern_route_analysis.specs.Formulas.{AtomView, FormulaView, FormulaViews, first_to_hold, formula, holds, no_formulas, of_atom, of_name, of_none, of_url, some_holds}

-- What is known is `is`, if anything is known.
abbrev pub Fits : {A : Type 0} → Result A AtomView → A → Type 0
Fits (Ok known) is = is ≡ known
Fits (Err atom) is = Unit {0}

module _ (is : AtomView → Bool) (one_name : HasOneName is) where
  -- ---- literals

  url_told : (own other : ℕ) (so v test : Bool) → is (of_url own) ≡ so → (own == other) ≡ test → (if test then Some so else None) ≡ Some v → is (of_url other) ≡ v
  url_told own other so v true is_so same tells = ap (λ (k : ℕ). is (of_url k)) (sym (eqb-true own other same)) ∙ is_so ∙ same_Some so v tells
  url_told own other so v false is_so other_one tells = absurd cc

  other_named : (attribute : ℕ) (name asked : List ℕ) → is (of_name attribute name) ≡ true → bytes_eq name asked ≡ false → is (of_name attribute asked) ≡ false
  other_named attribute name asked holds differ = elim (cases_Bool (is (of_name attribute asked))) [
    | inl also ↦ absurd (true≢false (sym ((bytes_eq-Decides name asked).1 (one_name attribute name asked holds also)) ∙ differ))
    | inr not_so ↦ not_so
  ]

  name_told : (attribute : ℕ) (name asked : List ℕ) (so v test : Bool) → is (of_name attribute name) ≡ so → bytes_eq name asked ≡ test → told_name test so ≡ Some v → is (of_name attribute asked) ≡ v
  name_told attribute name asked so v true is_so same tells = ap (λ (n : List ℕ). is (of_name attribute n)) (sym ((bytes_eq-Decides name asked).0 same)) ∙ is_so ∙ same_Some so v tells
  name_told attribute name asked true v false is_so differ tells = other_named attribute name asked is_so differ ∙ same_Some false v tells
  name_told attribute name asked false v false is_so differ tells = absurd cc

  attribute_told : (own other : ℕ) (name asked : List ℕ) (so v test : Bool) → is (of_name own name) ≡ so → (own == other) ≡ test → (if test then told_name (bytes_eq name asked) so else None) ≡ Some v → is (of_name other asked) ≡ v
  attribute_told own other name asked so v true is_so same tells =
      let equal = eqb-true own other same in
      name_told other name asked so v (bytes_eq name asked) (subst (λ (k : ℕ). is (of_name k name) ≡ so) equal is_so) refl tells
  attribute_told own other name asked so v false is_so differ tells = absurd cc

  of_told : (own : AtomView) (so : Bool) → is own ≡ so → (atom : AtomView) (v : Bool) → told_of own so atom ≡ Some v → is atom ≡ v
  of_told (of_url own) so is_so (of_url other) v tells = url_told own other so v (own == other) is_so refl tells
  of_told (of_url own) so is_so (of_name other asked) v tells = absurd cc
  of_told (of_name own name) so is_so (of_url other) v tells = absurd cc
  of_told (of_name own name) so is_so (of_name other asked) v tells = attribute_told own other name asked so v (own == other) is_so refl tells

  -- ---- what is known

  module _ (literals : List LiteralView) (are : AreSo is literals) where
    first_of : (some : List LiteralView) → AreSo is some → (atom : AtomView) (v : Bool) → first_told (map (λ it. told it atom) some) ≡ Some v → is atom ≡ v
    first_of [] so atom v tells = absurd cc
    first_of (it ∷ rest) so atom v tells =
        by (told it atom) refl tells (λ more. first_of rest (All-tail (λ l. is l.atom ≡ l.holds) it rest so) atom v more)
      where
        by : (found : Option Bool) → told it atom ≡ found → first_told (found ∷ map (λ l. told l atom) rest) ≡ Some v → (first_told (map (λ l. told l atom) rest) ≡ Some v → is atom ≡ v)
            → is atom ≡ v
        by None same tells later = later tells
        by (Some own) same tells later = of_told it.atom it.holds (All-head (λ l. is l.atom ≡ l.holds) it rest so) atom v (same ∙ tells)

    atom_fits : (atom : AtomView) (found : Option Bool) → known_atom literals atom ≡ found → Fits (ok_or found atom) (is atom)
    atom_fits atom None same = tt
    atom_fits atom (Some v) same = first_of literals are atom v same

    and_true : (b : Bool) → (b && true) ≡ b
    and_true true = refl
    and_true false = refl

    and_false : (b : Bool) → (b && false) ≡ false
    and_false true = refl
    and_false false = refl

    neither : (b h s : Bool) → ((b && not h) && not s) ≡ (b && not (h || s))
    neither false h s = refl
    neither true true s = refl
    neither true false s = refl

    -- What is known of those before and of one.
    step : (before one : Result Bool AtomView) (b h : Bool) → Fits before b → Fits one h → Fits (and_not before one) (b && not h)
    step (Ok false) one b h fit own = ap (λ (x : Bool). x && not h) fit
    step (Ok true) (Ok true) b h fit own = ap (λ (x : Bool). b && not x) own ∙ and_false b
    step (Ok true) (Ok false) b h fit own = ap (λ (x : Bool). b && not x) own ∙ and_true b ∙ fit
    step (Ok true) (Err atom) b h fit own = tt
    step (Err first) (Ok true) b h fit own = ap (λ (x : Bool). b && not x) own ∙ and_false b
    step (Err first) (Ok false) b h fit own = tt
    step (Err first) (Err atom) b h fit own = tt

    mutual
      pub known_fits : (one : FormulaView) → Fits (known literals one) (holds is one)
      known_fits (of_atom atom) = atom_fits atom (known_atom literals atom) refl
      known_fits (of_none formulas) = none_fits formulas (Ok true) true refl

      none_fits : (formulas : FormulaViews) (before : Result Bool AtomView) (b : Bool) → Fits before b → Fits (known_none literals before formulas) (b && not (some_holds is formulas))
      none_fits no_formulas before b fit = subst (Fits before) (sym (and_true b)) fit
      none_fits (formula one rest) before b fit =
          subst (Fits (known_none literals (and_not before (known literals one)) rest)) (neither b (holds is one) (some_holds is rest))
          (none_fits rest (and_not before (known literals one)) (b && not (holds is one)) (step before (known literals one) b (holds is one) fit (known_fits one)))

    first_step : (one : Result Bool AtomView) (later : Result (Option ℕ) AtomView) (h : Bool) (o : Option ℕ) → Fits one h → Fits later o
        → Fits (first_known one later) (if h then Some 0 else option_map (λ index. suc index) o)
    first_step (Ok true) later h o own fit = ap (λ (x : Bool). if x then Some 0 else option_map (λ index. suc index) o) own
    first_step (Ok false) (Ok index) h o own fit =
        ap (λ (x : Bool). if x then Some 0 else option_map (λ index. suc index) o) own ∙ ap (λ (k : Option ℕ). option_map (λ index. suc index) k) fit
    first_step (Ok false) (Err atom) h o own fit = tt
    first_step (Err atom) later h o own fit = tt

    pub first_fits : (formulas : List FormulaView) → Fits (known_first literals formulas) (first_to_hold is formulas)
    first_fits [] = refl
    first_fits (one ∷ rest) = first_step (known literals one) (known_first literals rest) (holds is one) (first_to_hold is rest) (known_fits one) (first_fits rest)

-- The decisions that are known where literals are so are those of both tables.
pub determined : (literals : List LiteralView) (ones others : List FormulaView) (one other : Option ℕ) → known_both literals ones others ≡ Ok (one, other) → Determine literals ones others one other
determined literals ones others one other known is one_name are =
    by (known_first literals ones) (known_first literals others) (first_fits is one_name literals are ones) (first_fits is one_name literals are others) known
  where
    by : (first second : Result (Option ℕ) AtomView) → Fits first (first_to_hold is ones) → Fits second (first_to_hold is others) → pair_known first second ≡ Ok (one, other)
        → (first_to_hold is ones ≡ one) × (first_to_hold is others ≡ other)
    by (Ok a) (Ok b) fit also same =
        let pair : ◌≡◌ {A = Option ℕ × Option ℕ} (a, b) (one, other) = cc in
        (fit ∙ ap (λ (p : Option ℕ × Option ℕ). p.0) pair, also ∙ ap (λ (p : Option ℕ × Option ℕ). p.1) pair)
    by (Ok a) (Err atom) fit also same = absurd cc
    by (Err atom) second fit also same = absurd cc
