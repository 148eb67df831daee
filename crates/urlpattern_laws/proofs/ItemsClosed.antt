-- Atoms, their repetitions and groups are read alike before a closing parenthesis and more text,
-- except for the numbers of groups.
use Rattle.std.proofs.Common.{◌≡◌, ℕ, zero, suc, ◌+◌, ◌*◌, Bool, true, false, not, [], ◌∷◌, length, drop, Option, Some, None, if◌then◌else◌, nat_le, refl, sym, ap, ap₂, ◌∙◌, true≢false, ⊎_elim}
use Rattle.std.proofs.lemmas.Bool.{cases_Bool}
use Rattle.regex_class.specs.Ranges.{bool_xor}
use Rattle.regex_hir.specs.Meaning.{repeat}
use Rattle.regex_hir.specs.Re.{Re}
use Rattle.regex_hir.specs.Text.{is_none_or}
use Rattle.regex_syntax.specs.Brackets.{Nested, flat}
use Rattle.regex_syntax.specs.declared.Config.{Config}
use Rattle.regex_syntax.specs.Escapes.{is_verbose}
use Rattle.regex_syntax.specs.Grammar.{atom, piece_meaning, char_meaning, upper_bound, counted_bounds, bounds, repetitions}
use Rattle.regex_syntax.specs.Reading.{Text, ◌>>=◌, ◌>>◌, ◌∈◌, first, is_at, skip, next}
use Rattle.regex_syntax.specs.Sets.{one_of}
use Rattle.urlpattern_laws.proofs.Bare.{bare, bare_repeat}
use Rattle.urlpattern_laws.proofs.Closing.{Calm, closed, calm_rest, skip_closed, Leaves, ReadAlike, alike_none, alike_some, alike_then, alike_value, alike_test, alike_if, alike_either}
use Rattle.urlpattern_laws.proofs.EscapesClosed.{at_closed, drop_closed, next_closed, decimal_closed, escape_closed}
use Rattle.urlpattern_laws.proofs.BracketsClosed.{bracket_closed}

pub true_of_not : (b : Bool) → not b ≡ false → b ≡ true
true_of_not true h = refl
true_of_not false h = absurd (true≢false h)

module _ (tail : Text) where
  -- ---- counts

  abbrev IsBoundsAlike : Option (ℕ × Option ℕ × Text) → (other : Option (ℕ × Option ℕ × Text)) → Type 0
  IsBoundsAlike None other = Unit {0}
  IsBoundsAlike (Some found) None = Unit {0}
  IsBoundsAlike (Some found) (Some other) = (other ≡ (found.0, found.1, closed tail found.2)) × Calm found.2

  -- If both are read, the results are the same, and the rests are alike.
  record BoundsAlike (found other : Option (ℕ × Option ℕ × Text)) : Type 0 where
    pub holds : IsBoundsAlike found other

  bounds_some : (least : ℕ) (most : Option ℕ) (t other : Text) → Leaves tail t other → BoundsAlike (Some (least, most, t)) (Some (least, most, other))
  bounds_some least most t other h = record { holds = (ap (λ (s : Text). (least, most, s)) h.0, h.1) }

  bounds_missing : (found : Option (ℕ × Option ℕ × Text)) → BoundsAlike found None
  bounds_missing None = record { holds = tt }
  bounds_missing (Some found) = record { holds = tt }

  bounds_test : (b : Bool) (x y : Option (ℕ × Option ℕ × Text)) → (b ≡ true → BoundsAlike x y) → BoundsAlike (b >> x) (b >> y)
  bounds_test true x y h = h refl
  bounds_test false x y h = record { holds = tt }

  bounds_either : (b : Bool) (x y p q : Option (ℕ × Option ℕ × Text)) → (b ≡ true → BoundsAlike x y) → (b ≡ false → BoundsAlike p q) → BoundsAlike (if b then x else p) (if b then y else q)
  bounds_either true x y p q h k = h refl
  bounds_either false x y p q h k = k refl

  bounds_after : {A : Type 0} (o q : Option (A × Text)) (f g : A × Text → Option (ℕ × Option ℕ × Text)) → ReadAlike tail o q
      → ((a : A) (t : Text) → Calm t → BoundsAlike (f (a, t)) (g (a, closed tail t))) → BoundsAlike (o >>= f) (q >>= g)
  bounds_after None q f g h k = record { holds = tt }
  bounds_after (Some found) None f g h k = bounds_missing _
  bounds_after (Some found) (Some other) f g h k =
      let same : other ≡ (found.0, closed tail found.1) = ap₂ (λ a t. (a, t)) h.holds.0 h.holds.1.0 in
      rw same (k found.0 found.1 h.holds.1.1)

  module _ (config : Config) where
    abbrev v : Bool
    v = is_verbose config

    upper_closed : (least : ℕ) (t : Text) → Calm t → ReadAlike tail (upper_bound config least t) (upper_bound config least (closed tail t))
    unfolding upper_bound
    upper_closed least t h =
        ⊎_elim
        (λ (e : is_at "," t ≡ true).
        let rest = next_closed tail v "," t e h in
        rw (upper_bound, at_closed tail "," t refl, e, rest.0, at_closed tail "}" (next v t) refl)
        (alike_if tail (is_at "}" (next v t)) _ _ _ _ (alike_some tail None _ _ (refl, rest.1))
        (alike_then tail _ _ _ _ (decimal_closed tail v (next v t) rest.1) (λ most left calm. alike_some tail (Some most) _ _ (refl, calm)))))
        (λ (e : is_at "," t ≡ false). rw (upper_bound, at_closed tail "," t refl, e) (alike_some tail (Some least) _ _ (refl, h)))
        (cases_Bool (is_at "," t))

    counted_closed : (t : Text) → Calm t → BoundsAlike (counted_bounds config t) (counted_bounds config (closed tail t))
    unfolding counted_bounds
    counted_closed t h =
        bounds_after _ _ _ _ (decimal_closed tail v t h) (λ least after calm.
        bounds_after _ _ _ _ (upper_closed least after calm) (λ most close still.
        rw (at_closed tail "}" close refl)
        (bounds_test (is_at "}" close) _ _ (λ e. bounds_test (is_none_or most (nat_le least)) _ _ (λ f. bounds_some least most _ _ (next_closed tail v "}" close e still))))))

    bounds_closed : (t : Text) → is_at "?*+{" t ≡ true → Calm t → BoundsAlike (bounds config t) (bounds config (closed tail t))
    unfolding bounds
    bounds_closed t e h =
        rw (bounds, at_closed tail "?" t refl, at_closed tail "*" t refl, at_closed tail "+" t refl)
        (bounds_either (is_at "?" t) _ _ _ _ (λ f. bounds_some 0 (Some 1) _ _ (drop_closed tail "?" t f h)) (λ f.
        bounds_either (is_at "*" t) _ _ _ _ (λ g. bounds_some 0 None _ _ (drop_closed tail "*" t g h)) (λ g.
        bounds_either (is_at "+" t) _ _ _ _ (λ i. bounds_some 1 None _ _ (drop_closed tail "+" t i h)) (λ i.
        let rest = next_closed tail v "?*+{" t e h in
        rw (rest.0) (counted_closed (next v t) rest.1)))))

  -- ---- trees

  -- The trees are the same, except for the numbers of groups.
  abbrev pub SameTree : (tree other : Nested Re) → Type 0
  SameTree tree other = bare other.value ≡ bare tree.value

  abbrev IsTreeAlike : Option (Nested Re × Text) → (other : Option (Nested Re × Text)) → Type 0
  IsTreeAlike None other = Unit {0}
  IsTreeAlike (Some found) None = Unit {0}
  IsTreeAlike (Some found) (Some other) = SameTree found.0 other.0 × Leaves tail found.1 other.1

  -- If both are read, the trees are the same, except for the numbers of groups, and the rests are
  -- alike.
  pub record TreeAlike (found other : Option (Nested Re × Text)) : Type 0 where
    pub holds : IsTreeAlike found other

  tree_none : (other : Option (Nested Re × Text)) → TreeAlike None other
  tree_none other = record { holds = tt }

  tree_missing : (found : Option (Nested Re × Text)) → TreeAlike found None
  tree_missing None = record { holds = tt }
  tree_missing (Some found) = record { holds = tt }

  tree_if : (b : Bool) (x y p q : Option (Nested Re × Text)) → TreeAlike x y → (b ≡ false → TreeAlike p q) → TreeAlike (if b then x else p) (if b then y else q)
  tree_if true x y p q h k = h
  tree_if false x y p q h k = k refl

  tree_after_bounds : (o q : Option (ℕ × Option ℕ × Text)) (f g : ℕ × Option ℕ × Text → Option (Nested Re × Text)) → BoundsAlike o q
      → ((least : ℕ) (most : Option ℕ) (t : Text) → Calm t → TreeAlike (f (least, most, t)) (g (least, most, closed tail t))) → TreeAlike (o >>= f) (q >>= g)
  tree_after_bounds None q f g h k = tree_none _
  tree_after_bounds (Some found) None f g h k = tree_missing _
  tree_after_bounds (Some found) (Some other) f g h k = rw (h.holds.0) (k found.0 found.1 found.2 h.holds.1)

  module _ (config : Config) where
    abbrev w : Bool
    w = is_verbose config

    -- A question mark makes the operator lazy.
    lazy_rest : (t : Text) → Calm t → Leaves tail (if is_at "?" t then drop 1 t else t) (if is_at "?" t then drop 1 (closed tail t) else closed tail t)
    lazy_rest t h =
        ⊎_elim
        (λ (e : is_at "?" t ≡ true). rw e (drop_closed tail "?" t e h))
        (λ (e : is_at "?" t ≡ false). rw e (refl, h))
        (cases_Bool (is_at "?" t))

    pub repetitions_closed : (n m : ℕ) (tree other : Nested Re) (t : Text) → SameTree tree other → Calm t → TreeAlike (repetitions config n tree t) (repetitions config m other (closed tail t))
    unfolding repetitions
    repetitions_closed zero m tree other t same h = tree_none _
    repetitions_closed (suc n) zero tree other t same h = tree_missing _
    repetitions_closed (suc n) (suc m) tree other t same h =
        let start = skip_closed tail w t h in
        let here = skip w t in
        rw (start.0.0, at_closed tail "?*+{" here refl)
        (tree_if (not (is_at "?*+{" here)) _ _ _ _ (record { holds = (same, (refl, start.0.1)) }) (λ e.
        tree_after_bounds _ _ _ _ (bounds_closed config here (true_of_not (is_at "?*+{" here) e) start.0.1) (λ least most after calm.
        let rest = lazy_rest after calm in
        let greedy = not (bool_xor (is_at "?" after) config.flags.swap_greed) in
        let alike : bare (repeat least most greedy other.value) ≡ bare (repeat least most greedy tree.value) =
        bare_repeat least most greedy other.value ∙ ap (repeat least most greedy) same ∙ sym (bare_repeat least most greedy tree.value) in
        rw (at_closed tail "?" after refl, rest.0)
        (repetitions_closed n m (record { value = repeat least most greedy tree.value; depth = tree.depth + 1 }) (record { value = repeat least most greedy other.value; depth = other.depth + 1 })
        (if is_at "?" after then drop 1 after else after) alike rest.1))))

    -- ---- atoms

    pub atom_closed : (t : Text) → Calm t → ReadAlike tail (atom config t) (atom config (closed tail t))
    unfolding atom first
    atom_closed [] h = alike_none tail _
    atom_closed (c ∷ t) h =
        alike_test tail (not (c ∈ "?*+{")) _ _
        (alike_either tail (c ∈ "[") _ _ _ _
        (λ e. alike_then tail _ _ _ _ (bracket_closed tail config (2 * length (c ∷ t) + 1) (2 * length (closed tail (c ∷ t)) + 1) (c ∷ t) e h) (λ set rest calm.
        alike_some tail (record { value = one_of config set.value; depth = set.depth }) _ _ (refl, calm)))
        (λ e. alike_if tail (c ∈ "\\") _ _ _ _
        (alike_then tail _ _ _ _ (escape_closed tail config t (calm_rest c t h)) (λ piece rest calm. alike_value tail (piece_meaning config piece) _ _ (λ re. alike_some tail (flat re) _ _ (refl, calm))))
        (alike_value tail (char_meaning config c) _ _ (λ re. alike_some tail (flat re) _ _ (refl, calm_rest c t h)))))
