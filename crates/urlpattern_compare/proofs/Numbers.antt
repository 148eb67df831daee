-- Different numbers, and lists of flags as numbers.
use Rattle.std.proofs.Common.{◌≡◌, ◌⊎◌, ◌∙◌, ◌<◌, ◌≤◌, ◌+◌, ◌*◌, ◌^◌, ℕ, zero, suc, Bool, true, false, List, [], ◌∷◌, ap, arith, eqb-true, inl, inr, length, refl, sym}
use Rattle.std.proofs.lemmas.Bool.{eqb-false}
use Rattle.std.specs.Prelude.{◌==◌}
use native.Mathlib.Nat as nat

-- ---- different numbers below a bound

-- The number `x`, or `y` where `x` is `m`.
abbrev replaced : (x m y : ℕ) → (is_m : Bool) → ℕ
replaced x m y true = y
replaced x m y false = x

replaced_cases : (x m y : ℕ) (is_m : Bool) → (x == m) ≡ is_m → ((x ≡ m) × (replaced x m y is_m ≡ y)) ⊎ ((¬ (x ≡ m)) × (replaced x m y is_m ≡ x))
replaced_cases x m y true e = inl (eqb-true x m e, refl)
replaced_cases x m y false e = inr (eqb-false x m e, refl)

abbrev pub AreBelow : (f : ℕ → ℕ) (n m : ℕ) → Type 0
AreBelow f n m = (i : ℕ) → i < n → f i < m

abbrev pub AreDifferent : (f : ℕ → ℕ) (n : ℕ) → Type 0
AreDifferent f n = (i j : ℕ) → i < n → j < n → f i ≡ f j → i ≡ j

-- Without the last of the numbers, whose value replaces the greatest one.
module _ (f : ℕ → ℕ) (n m : ℕ) (below : AreBelow f (suc n) (suc m)) (different : AreDifferent f (suc n)) where
  abbrev fewer : ℕ → ℕ
  fewer i = replaced (f i) m (f n) (f i == m)

  fewer_cases : (i : ℕ) → ((f i ≡ m) × (fewer i ≡ f n)) ⊎ ((¬ (f i ≡ m)) × (fewer i ≡ f i))
  fewer_cases i = replaced_cases (f i) m (f n) (f i == m) refl

  fewer_below : AreBelow fewer n m
  fewer_below i lt =
      let here = below i (omega arith) in
      let last = below n (omega arith) in
      let apart : ¬ (f i ≡ f n) = λ e. let same = different i n (omega arith) (omega arith) e in omega arith in
      elim (fewer_cases i) [ inl is ↦ omega (arith, is.0, is.1) | inr is ↦ omega (arith, is.0, is.1) ]

  fewer_different : AreDifferent fewer n
  fewer_different i j p q e =
      elim (fewer_cases i) [
        | inl first ↦ elim (fewer_cases j) [
          | inl second ↦ different i j (omega arith) (omega arith) (first.0 ∙ sym second.0)
          | inr second ↦ let same = different n j (omega arith) (omega arith) (sym first.1 ∙ e ∙ second.1) in absurd (omega arith)
        ]
        | inr first ↦ elim (fewer_cases j) [
          | inl second ↦ let same = different i n (omega arith) (omega arith) (sym first.1 ∙ e ∙ second.1) in absurd (omega arith)
          | inr second ↦ different i j (omega arith) (omega arith) (sym first.1 ∙ e ∙ second.1)
        ]
      ]

-- Different numbers below a bound are no more than the bound.
pub at_most : (n m : ℕ) (f : ℕ → ℕ) → AreBelow f n m → AreDifferent f n → n ≤ m
at_most zero m f below different = omega arith
at_most (suc n) zero f below different = let never = below n (omega arith) in absurd (omega arith)
at_most (suc n) (suc m) f below different =
    let rest = at_most n m (fewer f n m below different) (fewer_below f n m below different) (fewer_different f n m below different) in omega arith

-- ---- pairs as numbers

abbrev pub code : (state : ℕ) → List Bool → ℕ
code state [] = state
code state (true ∷ flags) = code state flags + code state flags + 1
code state (false ∷ flags) = code state flags + code state flags

abbrev pub doubled : (n : ℕ) → (times : ℕ) → ℕ
doubled n zero = n
doubled n (suc times) = doubled n times + doubled n times

pub doubled_is : (n times : ℕ) → doubled n times ≡ n * 2 ^ times
doubled_is n zero = let e : 2 ^ zero ≡ 1 = nat.pow-zero 2 in sym (ap (λ x. n * x) e ∙ nat.mul-one n)
doubled_is n (suc times) =
    let here = doubled_is n times in
    let power = nat.pow-suc 2 times in
    let e : 2 ^ suc times ≡ 2 ^ times + 2 ^ times = omega arith in
    ap (λ x. x + x) here ∙ sym (nat.mul-add n (2 ^ times) (2 ^ times)) ∙ ap (λ x. n * x) (sym e)

pub code_below : (n state : ℕ) (flags : List Bool) → state < n → code state flags < doubled n (length flags)
code_below n state [] lt = lt
code_below n state (true ∷ flags) lt = let below = code_below n state flags lt in omega arith
code_below n state (false ∷ flags) lt = let below = code_below n state flags lt in omega arith

-- Different pairs have different numbers.
pub code_one : (state other : ℕ) (flags others : List Bool) → length flags ≡ length others → code state flags ≡ code other others → (state ≡ other) × (flags ≡ others)
code_one state other [] [] long same = (same, refl)
code_one state other [] (o ∷ others) long same = absurd (omega arith)
code_one state other (f ∷ flags) [] long same = absurd (omega arith)
code_one state other (true ∷ flags) (true ∷ others) long same =
    let rest = code_one state other flags others (omega arith) (omega arith) in (rest.0, ap (λ l. true ∷ l) rest.1)
code_one state other (false ∷ flags) (false ∷ others) long same =
    let rest = code_one state other flags others (omega arith) (omega arith) in (rest.0, ap (λ l. false ∷ l) rest.1)
code_one state other (true ∷ flags) (false ∷ others) long same = absurd (omega arith)
code_one state other (false ∷ flags) (true ∷ others) long same = absurd (omega arith)
