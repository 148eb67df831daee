-- How the grammar of `regex` reads the words of a text before a closing parenthesis and more text.
use Rattle.std.proofs.Common.{◌≡◌, ℕ, zero, suc, ◌≤◌, Bool, true, false, not, ◌==◌, [], ◌∷◌, ◌++◌, length, Option, Some, None, if◌then◌else◌, refl, sym, ap, ap₂, arith, true≢false, ⊎_elim, length-append}
use Rattle.std.proofs.lemmas.Bool.{and_parts, cases_Bool}
use Rattle.std.specs.Char.{is_whitespace}
use Rattle.std.specs.List.{list_all}
use Rattle.regex_syntax.proofs.ReadingLemmas.{take_up_to_stops}
use Rattle.regex_syntax.specs.Reading.{Text, ◌>>=◌, ◌>>◌, first, skip_from, skip, take_up_to, take_run}

-- The text has no comment, even under the flag `x`.
abbrev pub Calm : Text → Type 0
Calm t = list_all (λ c. not (c == 35)) t ≡ true

-- The text, a closing parenthesis, and more text.
abbrev pub closed : (tail : Text) → Text → Text
closed tail t = t ++ 41 ∷ tail

false_of_not : (b : Bool) → not b ≡ true → b ≡ false
false_of_not true h = absurd (true≢false (sym h))
false_of_not false h = refl

pub calm_first : (c : ℕ) (t : Text) → Calm (c ∷ t) → (c == 35) ≡ false
calm_first c t h = false_of_not (c == 35) (and_parts _ _ h).0

pub calm_rest : (c : ℕ) (t : Text) → Calm (c ∷ t) → Calm t
calm_rest c t h = (and_parts _ _ h).1

module _ (tail : Text) where
  -- The rest is followed by the parenthesis and the tail, and has no comment.
  abbrev pub Leaves : (left other : Text) → Type 0
  Leaves left other = (other ≡ closed tail left) × Calm left

  spaces_closed : (t : Text) → Calm t → Leaves (skip_from false t) (skip_from false (closed tail t)) × (length (skip_from false t) ≤ length t)
  unfolding skip_from
  spaces_closed [] h = ((refl, h), omega arith)
  spaces_closed (c ∷ t) h =
      ⊎_elim
      (λ (e : is_whitespace c ≡ true).
      let more = spaces_closed t (calm_rest c t h) in
      rw (calm_first c t h, e) ((more.0.0, more.0.1), omega (arith, more.1)))
      (λ (e : is_whitespace c ≡ false). rw (calm_first c t h, e) ((refl, h), omega arith))
      (cases_Bool (is_whitespace c))

  pub skip_closed : (v : Bool) (t : Text) → Calm t → Leaves (skip v t) (skip v (closed tail t)) × (length (skip v t) ≤ length t)
  unfolding skip
  skip_closed true t h = spaces_closed t h
  skip_closed false t h = ((refl, h), omega arith)

  -- ---- runs

  -- The run is the same, and the rests are alike.
  abbrev pub SameRun : (run other : Text × Text) → Type 0
  SameRun run other = (other.0 ≡ run.0) × Leaves run.1 other.1

  -- A run of at most `n` characters. The parenthesis ends it if the text does.
  pub run_closed : (v : Bool) (n : ℕ) (test : ℕ → Bool) (t : Text) → Calm t → test 41 ≡ false → SameRun (take_up_to v n test t) (take_up_to v n test (closed tail t))
  unfolding take_up_to first
  run_closed v zero test t h ends = (refl, (refl, h))
  run_closed v (suc n) test [] h ends = rw ends (refl, (refl, h))
  run_closed v (suc n) test (c ∷ t) h ends =
      ⊎_elim
      (λ (e : test c ≡ true).
      let left = skip_closed v t (calm_rest c t h) in
      let more = run_closed v n test (skip v t) left.0.1 ends in
      rw (e, left.0.0) (ap (λ (cs : Text). c ∷ cs) more.0, more.1))
      (λ (e : test c ≡ false). rw e (refl, (refl, h)))
      (cases_Bool (test c))

  -- A run as long as the text allows. The parenthesis ends it if the text does.
  pub long_run_closed : (v : Bool) (n m : ℕ) (test : ℕ → Bool) (t : Text) → Calm t → length t ≤ n → length t ≤ m → ((take_up_to v n test t).1 ≡ [] → test 41 ≡ false)
      → SameRun (take_up_to v n test t) (take_up_to v m test (closed tail t))
  unfolding take_up_to first
  long_run_closed v n m test [] h le more ends =
      let none : take_up_to v n test [] ≡ ([], []) = take_up_to_stops v n test [] refl in
      let stays : test 41 ≡ false = ends (ap (λ (run : Text × Text). run.1) none) in
      rw (none, take_up_to_stops v m test (41 ∷ tail) stays) (refl, (refl, h))
  long_run_closed v zero m test (c ∷ t) h le more ends = absurd (omega (arith, le))
  long_run_closed v (suc n) zero test (c ∷ t) h le more ends = absurd (omega (arith, more))
  long_run_closed v (suc n) (suc m) test (c ∷ t) h le more ends =
      ⊎_elim
      (λ (e : test c ≡ true).
      let left = skip_closed v t (calm_rest c t h) in
      let others = long_run_closed v n m test (skip v t) left.0.1 (omega (arith, left.1)) (omega (arith, left.1)) (rw e at ends) in
      rw (e, left.0.0) (ap (λ (cs : Text). c ∷ cs) others.0, others.1))
      (λ (e : test c ≡ false). rw e (refl, (refl, h)))
      (cases_Bool (test c))

  pub take_run_closed : (v : Bool) (test : ℕ → Bool) (t : Text) → Calm t → ((take_run v test t).1 ≡ [] → test 41 ≡ false) → SameRun (take_run v test t) (take_run v test (closed tail t))
  unfolding take_run
  take_run_closed v test t h ends = long_run_closed v (length t) (length (closed tail t)) test t h (omega arith) (omega (arith, length-append t (41 ∷ tail))) ends

  -- ---- results

  abbrev pub IsReadAlike : {A : Type 0} → Option (A × Text) → (other : Option (A × Text)) → Type 0
  IsReadAlike None other = Unit {0}
  IsReadAlike (Some found) None = Unit {0}
  IsReadAlike (Some found) (Some other) = (other.0 ≡ found.0) × Leaves found.1 other.1

  -- If both are read, the results are the same, and the rests are alike.
  pub record ReadAlike {A : Type 0} (found other : Option (A × Text)) : Type 0 where
    pub holds : IsReadAlike found other

  pub alike_none : {A : Type 0} (other : Option (A × Text)) → ReadAlike None other
  alike_none other = record { holds = tt }

  pub alike_missing : {A : Type 0} (found : Option (A × Text)) → ReadAlike found None
  alike_missing None = record { holds = tt }
  alike_missing (Some found) = record { holds = tt }

  pub alike_some : {A : Type 0} (a : A) (t other : Text) → Leaves t other → ReadAlike (Some (a, t)) (Some (a, other))
  alike_some a t other h = record { holds = (refl, h) }

  pub alike_then : {A B : Type 0} (o q : Option (A × Text)) (f g : A × Text → Option (B × Text)) → ReadAlike o q
      → ((a : A) (t : Text) → Calm t → ReadAlike (f (a, t)) (g (a, closed tail t))) → ReadAlike (o >>= f) (q >>= g)
  alike_then None q f g h k = alike_none _
  alike_then (Some found) None f g h k = alike_missing _
  alike_then (Some found) (Some other) f g h k =
      let same : other ≡ (found.0, closed tail found.1) = ap₂ (λ a t. (a, t)) h.holds.0 h.holds.1.0 in
      rw same (k found.0 found.1 h.holds.1.1)

  -- A value that consumes no text.
  pub alike_value : {A B : Type 0} (o : Option A) (f g : A → Option (B × Text)) → ((a : A) → ReadAlike (f a) (g a)) → ReadAlike (o >>= f) (o >>= g)
  alike_value None f g h = alike_none _
  alike_value (Some a) f g h = h a

  pub alike_test : {B : Type 0} (b : Bool) (x y : Option (B × Text)) → ReadAlike x y → ReadAlike (b >> x) (b >> y)
  alike_test true x y h = h
  alike_test false x y h = alike_none _

  -- A step after a test that holds.
  pub alike_when : {B : Type 0} (b : Bool) (x y : Option (B × Text)) → (b ≡ true → ReadAlike x y) → ReadAlike (b >> x) (b >> y)
  alike_when true x y h = h refl
  alike_when false x y h = alike_none _

  pub alike_if : {B : Type 0} (b : Bool) (x y p q : Option (B × Text)) → ReadAlike x y → ReadAlike p q → ReadAlike (if b then x else p) (if b then y else q)
  alike_if true x y p q h g = h
  alike_if false x y p q h g = g

  pub alike_either : {B : Type 0} (b : Bool) (x y p q : Option (B × Text)) → (b ≡ true → ReadAlike x y) → (b ≡ false → ReadAlike p q) → ReadAlike (if b then x else p) (if b then y else q)
  alike_either true x y p q h g = h refl
  alike_either false x y p q h g = g refl
