-- Classes in brackets are read alike before a closing parenthesis and more text.
use Rattle.std.proofs.Common.{◌≡◌, ◌≢◌, ℕ, zero, suc, ◌+◌, Bool, true, false, not, ◌&&◌, ◌||◌, ◌==◌, List, [], ◌∷◌, ◌++◌, map, length, drop, Option, Some, None, is_some, if◌then◌else◌, nat_eq, option_map, refl, sym, ap, arith, true≢false, codes, ⊎_elim, ne_eqb}
use Rattle.std.proofs.lemmas.Bool.{and_parts, and_right, cases_Bool}
use Rattle.std.proofs.lemmas.Bool.Decides.{nat_tests}
use Rattle.std.specs.Char.{is_whitespace}
use Rattle.std.specs.List.{starts_with, list_any}
use lib.Pointwise.{pointwise}
use Rattle.regex_syntax.specs.Brackets.{Nested, flat, union, unite, operator, posix, member, single, range, after_hyphen, set_item, bracket_start, item_or, operation, set_items, operations, bracket}
use Rattle.regex_syntax.specs.declared.Config.{Config}
use Rattle.regex_syntax.specs.Escapes.{Piece, character, is_verbose}
use Rattle.regex_syntax.specs.Reading.{Text, ◌>>=◌, ◌>>◌, ◌∈◌, first, is_at, begins, spells, is_empty, skip, next, take_run, split_once}
use Rattle.regex_syntax.specs.Sets.{Set, ascii_class, case_fold, negate_if}
use Prim.Native.String.{String}
use Rattle.urlpattern_laws.proofs.Closing.{Calm, closed, calm_first, calm_rest, skip_closed, Leaves, take_run_closed, ReadAlike, alike_none, alike_missing, alike_some, alike_then, alike_value, alike_if, alike_either}
use Rattle.urlpattern_laws.proofs.EscapesClosed.{at_closed, drop_closed, next_closed, escape_closed}

module _ (tail : Text) where
  -- ---- words

  nil≢cons : (c : ℕ) (t : Text) → [] ≢ c ∷ t
  nil≢cons c t e = absurd (omega (arith, ap length e))

  pub full : (c : ℕ) (t : Text) → is_empty (c ∷ t) ≡ false
  full c t = ne_eqb (length (c ∷ t)) 0 (λ e. omega arith)

  turned : (d : ℕ) → (d == 41) ≡ false → (41 == d) ≡ false
  turned d h = grind (arith, nat_tests)

  or_left_false : (a b : Bool) → (a || b) ≡ false → a ≡ false
  or_left_false true b h = absurd (true≢false h)
  or_left_false false b h = refl

  or_right_false : (a b : Bool) → (a || b) ≡ false → b ≡ false
  or_right_false true b h = absurd (true≢false h)
  or_right_false false b h = h

  -- The word has no closing parenthesis.
  abbrev pub LacksClose : List ℕ → Type 0
  LacksClose w = list_any (λ c. c == 41) w ≡ false

  pub starts_closed : (w : List ℕ) (t : Text) → LacksClose w → starts_with nat_eq (closed tail t) w ≡ starts_with nat_eq t w
  starts_closed [] t h = refl
  starts_closed (d ∷ w) [] h = rw (or_left_false (d == 41) (list_any (λ c. c == 41) w) h) refl
  starts_closed (d ∷ w) (c ∷ t) h = ap (λ b. nat_eq d c && b) (starts_closed w t (or_right_false (d == 41) (list_any (λ c. c == 41) w) h))

  operator_closed : (t : Text) → operator (closed tail t) ≡ operator t
  unfolding operator
  operator_closed t = rw (operator, starts_closed (codes "&&") t refl, starts_closed (codes "--") t refl, starts_closed (codes "~~") t refl) refl

  spells_other : (w : List ℕ) (name more : Text) → LacksClose w → pointwise nat_eq (name ++ 41 ∷ more) w ≡ false
  spells_other [] [] more h = refl
  spells_other [] (c ∷ name) more h = refl
  spells_other (d ∷ w) [] more h =
      let other : (41 == d) ≡ false = turned d (or_left_false (d == 41) (list_any (λ c. c == 41) w) h) in
      rw other refl
  spells_other (d ∷ w) (c ∷ name) more h = rw (spells_other w name more (or_right_false (d == 41) (list_any (λ c. c == 41) w) h)) (and_right (c == d) false refl)

  -- No class has a name with a closing parenthesis.
  no_name : (name more : Text) → ascii_class (name ++ 41 ∷ more) ≡ None
  unfolding ascii_class
  no_name name more =
      let other : (w : String) → LacksClose (codes w) → spells w (name ++ 41 ∷ more) ≡ false = λ w h. spells_other (codes w) name more h in
      rw (
        ascii_class,
        other "alnum" refl,
        other "alpha" refl,
        other "ascii" refl,
        other "blank" refl,
        other "cntrl" refl,
        other "digit" refl,
        other "graph" refl,
        other "lower" refl,
        other "print" refl,
        other "punct" refl,
        other "space" refl,
        other "upper" refl,
        other "word" refl,
        other "xdigit" refl,
      ) refl

  -- ---- named classes

  -- The word before a colon is the same, or, if the text has no colon, contains the parenthesis.
  abbrev IsSplitAlike : Option (Text × Text) → (other : Option (Text × Text)) → Type 0
  IsSplitAlike (Some found) other = (other ≡ Some (found.0, closed tail found.1)) × Calm found.1
  IsSplitAlike None None = Unit {0}
  IsSplitAlike None (Some other) = (name more : Text) × (other.0 ≡ name ++ 41 ∷ more)

  split_tail : (o : Option (Text × Text)) → IsSplitAlike None (option_map (λ (before, after). (41 ∷ before, after)) o)
  split_tail None = tt
  split_tail (Some found) = ([], found.0, refl)

  split_on : (c : ℕ) (o q : Option (Text × Text)) → IsSplitAlike o q
      → IsSplitAlike (option_map (λ (before, after). (c ∷ before, after)) o) (option_map (λ (before, after). (c ∷ before, after)) q)
  split_on c (Some found) q h = (ap (option_map (λ (before, after). (c ∷ before, after))) h.0, h.1)
  split_on c None None h = tt
  split_on c None (Some other) h = (c ∷ h.0, h.1, ap (λ (t : Text). c ∷ t) h.2)

  split_closed : (t : Text) → Calm t → IsSplitAlike (split_once (codes ":") t) (split_once (codes ":") (closed tail t))
  unfolding split_once
  split_closed [] h = split_tail (split_once (codes ":") tail)
  split_closed (c ∷ t) h =
      ⊎_elim
      (λ (e : (nat_eq 58 c && true) ≡ true). rw e (refl, calm_rest c t h))
      (λ (e : (nat_eq 58 c && true) ≡ false). rw e (split_on c (split_once (codes ":") t) (split_once (codes ":") (closed tail t)) (split_closed t (calm_rest c t h))))
      (cases_Bool (nat_eq 58 c && true))

  -- If a class is read, it is read alike. If none is read, none is read before the parenthesis.
  abbrev IsNamedAlike : Option (Set × Bool × Text) → (other : Option (Set × Bool × Text)) → Type 0
  IsNamedAlike (Some found) other = (other ≡ Some (found.0, found.1, closed tail found.2)) × Calm found.2
  IsNamedAlike None other = other ≡ None

  -- The class of a name, from the `]` after its colon on.
  abbrev ends_name : (negated : Bool) → Text × Text → Option (Set × Bool × Text)
  ends_name negated found = is_at "]" found.1 >> (ascii_class found.0 >>= λ set. Some (set, negated, drop 1 found.1))

  no_end : (b : Bool) → (let none : Option (Set × Bool × Text) = None in (b >> none) ≡ none)
  no_end true = refl
  no_end false = refl

  ends_same : (negated : Bool) (name left : Text) → is_at "]" left ≡ true → Calm left → (o : Option Set)
      → IsNamedAlike (o >>= λ set. Some (set, negated, drop 1 left)) (o >>= λ set. Some (set, negated, drop 1 (closed tail left)))
  ends_same negated name left e h None = refl
  ends_same negated name left e h (Some set) = let rest = drop_closed tail "]" left e h in (ap (λ (t : Text). Some (set, negated, t)) rest.0, rest.1)

  named_from : (negated : Bool) (o q : Option (Text × Text)) → IsSplitAlike o q → IsNamedAlike (o >>= ends_name negated) (q >>= ends_name negated)
  named_from negated None None h = refl
  named_from negated None (Some other) h = rw (h.2, no_name h.0 h.1) (no_end (is_at "]" other.1))
  named_from negated (Some found) q h =
      ⊎_elim
      (λ (e : is_at "]" found.1 ≡ true). rw (h.0, at_closed tail "]" found.1 refl, e) (ends_same negated found.0 found.1 e h.1 (ascii_class found.0)))
      (λ (e : is_at "]" found.1 ≡ false). rw (h.0, at_closed tail "]" found.1 refl, e) refl)
      (cases_Bool (is_at "]" found.1))

  by_start : (b : Bool) (x y : Option (Set × Bool × Text)) → IsNamedAlike x y → IsNamedAlike (b >> x) (b >> y)
  by_start true x y h = h
  by_start false x y h = refl

  after_start : (negated : Bool) (a b : ℕ) (t : Text) → Calm t → (t ≡ [] → negated ≡ false)
      → IsNamedAlike (split_once (codes ":") (drop (if negated then 3 else 2) (a ∷ b ∷ t)) >>= ends_name negated)
      (split_once (codes ":") (drop (if negated then 3 else 2) (closed tail (a ∷ b ∷ t))) >>= ends_name negated)
  after_start false a b t h fits = named_from false (split_once (codes ":") t) (split_once (codes ":") (closed tail t)) (split_closed t h)
  after_start true a b [] h fits = absurd (true≢false (fits refl))
  after_start true a b (c ∷ t) h fits = named_from true (split_once (codes ":") t) (split_once (codes ":") (closed tail t)) (split_closed t (calm_rest c t h))

  pub posix_closed : (t : Text) → Calm t → IsNamedAlike (posix t) (posix (closed tail t))
  unfolding posix
  posix_closed [] h = refl
  posix_closed (a ∷ []) h = rw (posix, starts_closed (codes "[:") (a ∷ []) refl, and_right (nat_eq 91 a) false refl) refl
  posix_closed (a ∷ b ∷ []) h =
      let short : (nat_eq 91 a && (nat_eq 58 b && false)) ≡ false = rw (and_right (nat_eq 58 b) false refl) (and_right (nat_eq 91 a) false refl) in
      rw (posix, starts_closed (codes "[:") (a ∷ b ∷ []) refl, starts_closed (codes "[:^") (a ∷ b ∷ []) refl)
      (by_start (begins "[:" (a ∷ b ∷ [])) _ _ (after_start (begins "[:^" (a ∷ b ∷ [])) a b [] refl (λ e. short)))
  posix_closed (a ∷ b ∷ c ∷ t) h =
      rw (posix, starts_closed (codes "[:") (a ∷ b ∷ c ∷ t) refl, starts_closed (codes "[:^") (a ∷ b ∷ c ∷ t) refl)
      (by_start (begins "[:" (a ∷ b ∷ c ∷ t)) _ _ (after_start (begins "[:^" (a ∷ b ∷ c ∷ t)) a b (c ∷ t) (calm_rest b (c ∷ t) (calm_rest a (b ∷ c ∷ t) h)) (λ e. absurd (nil≢cons c t (sym e)))))

  calm_at : (t : Text) → Calm t → is_at "#" t ≡ false
  unfolding first
  calm_at [] h = refl
  calm_at (c ∷ t) h = calm_first c t h

  module _ (config : Config) where
    abbrev v : Bool
    v = is_verbose config

    member_closed : (t : Text) → Calm t → ReadAlike tail (member config t) (member config (closed tail t))
    unfolding member first
    member_closed [] h = alike_none tail _
    member_closed (c ∷ t) h =
        alike_if tail (c ∈ "\\") _ _ _ _ (escape_closed tail config t (calm_rest c t h)) (alike_some tail (character c false) _ _ (refl, calm_rest c t h))

    -- White space and a `#` after a hyphen.
    blank_closed : (w : String) (t : Text) → is_at w t ≡ true → Calm t → Leaves tail (take_run false is_whitespace (drop 1 t)).1 (take_run false is_whitespace (drop 1 (closed tail t))).1
    blank_closed w t e h =
        let rest = drop_closed tail w t e h in
        rw (rest.0) (take_run_closed tail false is_whitespace (drop 1 t) rest.1 (λ none. refl)).1

    after_hyphen_closed : (t : Text) → is_at "-" t ≡ true → Calm t → Leaves tail (after_hyphen config t) (after_hyphen config (closed tail t))
    unfolding after_hyphen
    after_hyphen_closed t e h =
        let blank = blank_closed "-" t e h in
        let left = (take_run false is_whitespace (drop 1 t)).1 in
        ⊎_elim
        (λ (f : not v ≡ true). rw (after_hyphen, f) (drop_closed tail "-" t e h))
        (λ (f : not v ≡ false). rw (after_hyphen, f, blank.0, at_closed tail "#" left refl, calm_at left blank.1) (refl, blank.1))
        (cases_Bool (not v))

    -- Whether a second character follows the hyphen.
    abbrev makes_range : Text → Bool
    makes_range t = is_at "-" t && not (is_at "]-" (after_hyphen config t))

    makes_range_closed : (c : ℕ) (t : Text) → Calm (c ∷ t) → makes_range (closed tail (c ∷ t)) ≡ makes_range (c ∷ t)
    unfolding first
    makes_range_closed c t h =
        ⊎_elim
        (λ (e : (c ∈ "-") ≡ true). rw (e, (after_hyphen_closed (c ∷ t) e h).0, at_closed tail "]-" (after_hyphen config (c ∷ t)) refl) refl)
        (λ (e : (c ∈ "-") ≡ false). rw e refl)
        (cases_Bool (c ∈ "-"))

    abbrev item_from : Piece → Text → Option (Set × Text)
    item_from low hyphen = not (is_empty hyphen) >> (if makes_range hyphen
        then (member config (next v hyphen) >>= λ (high, rest). range config low high >>= λ set. Some (set, rest))
        else single config low >>= λ set. Some (set, hyphen))

    item_from_closed : (low : Piece) (hyphen : Text) → Calm hyphen → ReadAlike tail (item_from low hyphen) (item_from low (closed tail hyphen))
    item_from_closed low [] h = alike_none tail _
    item_from_closed low (c ∷ t) h =
        let left = (skip_closed tail v t (calm_rest c t h)).0 in
        rw (full c t, full c (closed tail t), makes_range_closed c t h)
        (alike_if tail (makes_range (c ∷ t)) _ _ _ _
        (rw left.0 (alike_then tail _ _ _ _ (member_closed (skip v t) left.1) (λ high rest calm. alike_value tail (range config low high) _ _ (λ set. alike_some tail set _ _ (refl, calm)))))
        (alike_value tail (single config low) _ _ (λ set. alike_some tail set _ _ (refl, h))))

    set_item_closed : (t : Text) → Calm t → ReadAlike tail (set_item config t) (set_item config (closed tail t))
    unfolding set_item
    set_item_closed t h =
        alike_then tail _ _ _ _ (member_closed t h) (λ low after calm.
        let hyphen = skip_closed tail v after calm in
        rw (hyphen.0.0) (item_from_closed low (skip v after) hyphen.0.1))

    -- ---- the start of a class

    abbrev start_from : Bool → Text → Bool × Text × Text
    start_from negated t =
        let run = take_run v (λ c. c ∈ "-") t in
        if is_empty run.0 && is_at "]" run.1 then (negated, 0x5D ∷ [], next v run.1) else (negated, run.0, run.1)

    abbrev SameStart : Bool × Text × Text → (other : Bool × Text × Text) → Type 0
    SameStart start other = (other ≡ (start.0, start.1, closed tail start.2)) × Calm start.2

    start_from_closed : (negated : Bool) (t : Text) → Calm t → SameStart (start_from negated t) (start_from negated (closed tail t))
    start_from_closed negated t h =
        let run = take_run v (λ c. c ∈ "-") t in
        let same = take_run_closed tail v (λ c. c ∈ "-") t h (λ none. refl) in
        ⊎_elim
        (λ (e : (is_empty run.0 && is_at "]" run.1) ≡ true).
        let rest = next_closed tail v "]" run.1 (and_parts _ _ e).1 same.1.1 in
        rw (same.0, same.1.0, at_closed tail "]" run.1 refl, e) (ap (λ (s : Text). (negated, 0x5D ∷ [], s)) rest.0, rest.1))
        (λ (e : (is_empty run.0 && is_at "]" run.1) ≡ false). rw (same.0, same.1.0, at_closed tail "]" run.1 refl, e) (refl, same.1.1))
        (cases_Bool (is_empty run.0 && is_at "]" run.1))

    bracket_start_closed : (t : Text) → Calm t → SameStart (bracket_start config t) (bracket_start config (closed tail t))
    unfolding bracket_start
    bracket_start_closed t h =
        ⊎_elim
        (λ (e : is_at "^" t ≡ true). let rest = next_closed tail v "^" t e h in rw (bracket_start, at_closed tail "^" t refl, e, rest.0) (start_from_closed true (next v t) rest.1))
        (λ (e : is_at "^" t ≡ false). rw (bracket_start, at_closed tail "^" t refl, e) (start_from_closed false t h))
        (cases_Bool (is_at "^" t))

    unite_closed : (leading : List (Nested Set)) (o q : Option (List (Nested Set) × Text)) → ReadAlike tail o q → ReadAlike tail (unite leading o) (unite leading q)
    unfolding unite
    unite_closed leading o q h = alike_then tail o q _ _ h (λ parts rest calm. alike_some tail (union (leading ++ parts)) _ _ (refl, calm))

    item_or_closed : (inner other : Text → Option (Nested Set × Text)) (o q : Option (Set × Bool × Text)) (t : Text) → Calm t → IsNamedAlike o q
        → (is_at "[" t ≡ true → ReadAlike tail (inner t) (other (closed tail t))) → ReadAlike tail (item_or config inner o t) (item_or config other q (closed tail t))
    unfolding item_or
    item_or_closed inner other (Some found) q t h named inside =
        rw (named.0) (alike_value tail (negate_if config found.1 (case_fold config found.0)) _ _ (λ set. alike_some tail (flat set) _ _ (refl, named.1)))
    item_or_closed inner other None q t h named inside =
        rw (named, item_or, at_closed tail "[" t refl)
        (alike_either tail (is_at "[" t) _ _ _ _ inside (λ e. alike_then tail _ _ _ _ (set_item_closed t h) (λ set rest calm. alike_some tail (flat set) _ _ (refl, calm))))

    abbrev sides : ℕ → Nested Set → Text → (Bool → Bool → Bool) → Option (Nested Set × Text)
    sides n left t apply = unite [] (set_items config n t) >>= λ (right, rest). operations config n (operation config apply left right) rest

    -- The class after an operator.
    after_operator : (n m : ℕ) (left : Nested Set) (t : Text) → ((t : Text) → Calm t → ReadAlike tail (set_items config n t) (set_items config m (closed tail t)))
        → ((left : Nested Set) (t : Text) → Calm t → ReadAlike tail (operations config n left t) (operations config m left (closed tail t)))
        → Calm t → is_at "]" t ≡ false → ReadAlike tail (operator t >>= sides n left (drop 2 t)) (operator (closed tail t) >>= sides m left (drop 2 (closed tail t)))
    unfolding operator
    after_operator n m left [] items more h e = alike_none tail _
    after_operator n m left (a ∷ []) items more h e = rw (operator, and_right (nat_eq 38 a) false refl, and_right (nat_eq 45 a) false refl, and_right (nat_eq 126 a) false refl) (alike_none tail _)
    after_operator n m left (a ∷ b ∷ t) items more h e =
        rw (operator_closed (a ∷ b ∷ t))
        (alike_value tail (operator (a ∷ b ∷ t)) _ _ (λ apply.
        alike_then tail _ _ _ _ (unite_closed [] _ _ (items t (calm_rest b t (calm_rest a (b ∷ t) h)))) (λ right rest calm. more (operation config apply left right) rest calm)))

    mutual
      unfolding set_items operations bracket

      items_closed : (n m : ℕ) (t : Text) → Calm t → ReadAlike tail (set_items config n t) (set_items config m (closed tail t))
      items_closed zero m t h = alike_none tail _
      items_closed (suc n) zero t h = alike_missing tail _
      items_closed (suc n) (suc m) t h =
          let start = skip_closed tail v t h in
          let here = skip v t in
          rw (start.0.0, at_closed tail "]" here refl, operator_closed here)
          (alike_if tail (is_at "]" here || is_some (operator here)) _ _ _ _ (alike_some tail [] _ _ (refl, start.0.1))
          (alike_then tail _ _ _ _ (item_or_closed (bracket config n) (bracket config m) (posix here) (posix (closed tail here)) here start.0.1 (posix_closed here start.0.1) (λ e. bracket_closed n m here e start.0.1))
          (λ part after calm. alike_then tail _ _ _ _ (items_closed n m after calm) (λ parts rest still. alike_some tail (part ∷ parts) _ _ (refl, still)))))

      operations_closed : (n m : ℕ) (left : Nested Set) (t : Text) → Calm t → ReadAlike tail (operations config n left t) (operations config m left (closed tail t))
      operations_closed zero m left t h = alike_none tail _
      operations_closed (suc n) zero left t h = alike_missing tail _
      operations_closed (suc n) (suc m) left t h =
          rw (at_closed tail "]" t refl)
          (alike_either tail (is_at "]" t) _ _ _ _ (λ e. alike_some tail left _ _ (drop_closed tail "]" t e h))
          (λ e. after_operator n m left t (λ s calm. items_closed n m s calm) (λ other s calm. operations_closed n m other s calm) h e))

      pub bracket_closed : (n m : ℕ) (t : Text) → is_at "[" t ≡ true → Calm t → ReadAlike tail (bracket config n t) (bracket config m (closed tail t))
      bracket_closed zero m t e h = alike_none tail _
      bracket_closed (suc n) zero t e h = alike_missing tail _
      bracket_closed (suc n) (suc m) t e h =
          let inside = next_closed tail v "[" t e h in
          let start = bracket_start_closed (next v t) inside.1 in
          let negated = (bracket_start config (next v t)).0 in
          let leading = (bracket_start config (next v t)).1 in
          let after = (bracket_start config (next v t)).2 in
          rw (inside.0, start.0)
          (alike_then tail _ _ _ _ (unite_closed (map (λ c. flat (λ d. d == c)) leading) _ _ (items_closed n m after start.1)) (λ left more calm.
          alike_then tail _ _ _ _ (operations_closed n m left more calm) (λ all rest still.
          alike_value tail (negate_if config negated (case_fold config all.value)) _ _ (λ set. alike_some tail (record { value = set; depth = all.depth + 1 }) _ _ (refl, still)))))
