-- Groups and branches are read alike before a closing parenthesis and more text, except for the
-- numbers and names of groups.
use Rattle.std.proofs.Common.{◌≡◌, ℕ, zero, suc, ◌+◌, ◌+◌, ◌^◌, Bool, true, false, not, ◌||◌, ◌==◌, nat_lt, nat_eq, List, [], ◌∷◌, ◌++◌, map, length, drop, reverse, Option, Some, None, if◌then◌else◌, refl, sym, ap, ap₂, ◌∙◌, arith, true≢false, codes, encode_utf8_all, IfSome, ⊎_elim}
use Rattle.std.proofs.lemmas.Bool.{and_parts, cases_Bool}
use Rattle.std.proofs.lemmas.List.{length_push}
use Rattle.std.specs.List.{starts_with, list_any}
use lib.Pointwise.{pointwise}
use Rattle.regex_hir.specs.Meaning.{cat_all, alt_all}
use Rattle.regex_hir.specs.Re.{Re, empty, group}
use Rattle.regex_hir.specs.Text.{is_some_and}
use Rattle.regex_syntax.specs.Brackets.{Nested, flat, join}
use Rattle.regex_syntax.specs.declared.Config.{Config}
use Rattle.regex_syntax.specs.declared.flags.Flags.{Flags}
use Rattle.regex_syntax.specs.Escapes.{is_verbose}
use Rattle.regex_syntax.specs.Grammar.{Names, Place, Opening, setting, opens, set_flag, set_flags, is_name, capture, named_group, opening, with_repetitions, rest_of_group, item, join_parts, items, branches}
use Rattle.regex_syntax.specs.Reading.{Text, ◌>>=◌, ◌>>◌, ◌∈◌, first, is_at, begins, is_empty, skip, next, take_run}
use Rattle.urlpattern_laws.proofs.Bare.{bare, bare_cat_all, bare_alt_all}
use Rattle.urlpattern_laws.proofs.Closing.{Calm, closed, calm_rest, skip_closed, Leaves, ReadAlike, alike_none, alike_some, alike_value, alike_test, alike_if}
use Rattle.urlpattern_laws.proofs.EscapesClosed.{at_closed, drop_closed, next_closed, marked_run}
use Rattle.urlpattern_laws.proofs.BracketsClosed.{full, starts_closed}
use Rattle.urlpattern_laws.proofs.ItemsClosed.{true_of_not, SameTree, TreeAlike, repetitions_closed, atom_closed}

-- `alone` groups are open before the text by itself, and `there` groups before the text in a group.
module _ (tail : Text) (alone there : ℕ) where
  -- ---- places

  -- The place with other names, and with the parenthesis after its text.
  abbrev pub beside : Place → Names → Place
  beside p names = record p { names = names; text = closed tail p.text }

  -- The text has no comment, and as many groups were opened in both places.
  abbrev pub Held : Text → (names others : Names) → Type 0
  Held t names others = Calm t × (length others + alone ≡ length names + there)

  abbrev IsAlike : {A : Type 0} → (Same : A → A → Type 0) → Option (A × Place) → (other : Option (A × Place)) → Type 0
  IsAlike Same None other = Unit {0}
  IsAlike Same (Some found) None = Unit {0}
  IsAlike Same (Some found) (Some other) = Same found.0 other.0 × (other.1 ≡ beside found.1 other.1.names) × Held found.1.text found.1.names other.1.names

  -- If both are read, the results are the same by `Same`, and the rests are alike.
  pub record Alike {A : Type 0} (Same : A → A → Type 0) (found other : Option (A × Place)) : Type 0 where
    pub holds : IsAlike Same found other

  none_alike : {A : Type 0} (Same : A → A → Type 0) (other : Option (A × Place)) → Alike Same None other
  none_alike Same other = record { holds = tt }

  missing_alike : {A : Type 0} (Same : A → A → Type 0) (found : Option (A × Place)) → Alike Same found None
  missing_alike Same None = record { holds = tt }
  missing_alike Same (Some found) = record { holds = tt }

  some_alike : {A : Type 0} (Same : A → A → Type 0) (a b : A) (p : Place) (names : Names) → Same a b → Held p.text p.names names → Alike Same (Some (a, p)) (Some (b, beside p names))
  some_alike Same a b p names same h = record { holds = (same, refl, h) }

  then_alike : {A B : Type 0} (Same : A → A → Type 0) (Next : B → B → Type 0) (o q : Option (A × Place)) (f g : A × Place → Option (B × Place)) → Alike Same o q
      → ((a b : A) (p : Place) (names : Names) → Same a b → Held p.text p.names names → Alike Next (f (a, p)) (g (b, beside p names))) → Alike Next (o >>= f) (q >>= g)
  then_alike Same Next None q f g h k = none_alike Next _
  then_alike Same Next (Some found) None f g h k = missing_alike Next _
  then_alike Same Next (Some found) (Some other) f g h k =
      let same : other ≡ (other.0, beside found.1 other.1.names) = ap (λ (p : Place). (other.0, p)) h.holds.1 in
      rw same (k found.0 other.0 found.1 other.1.names h.holds.0 h.holds.2)

  if_alike : {A : Type 0} (Same : A → A → Type 0) (b : Bool) (x y p q : Option (A × Place)) → (b ≡ true → Alike Same x y) → (b ≡ false → Alike Same p q) → Alike Same (if b then x else p) (if b then y else q)
  if_alike Same true x y p q h k = h refl
  if_alike Same false x y p q h k = k refl

  test_alike : {A : Type 0} (Same : A → A → Type 0) (b : Bool) (x y : Option (A × Place)) → (b ≡ true → Alike Same x y) → Alike Same (b >> x) (b >> y)
  test_alike Same true x y h = h refl
  test_alike Same false x y h = none_alike Same _

  -- A test of only one of the two results.
  own_test : {A : Type 0} (Same : A → A → Type 0) (b : Bool) (x y : Option (A × Place)) → (b ≡ true → Alike Same x y) → Alike Same (b >> x) y
  own_test Same true x y h = h refl
  own_test Same false x y h = none_alike Same _

  other_test : {A : Type 0} (Same : A → A → Type 0) (b : Bool) (x y : Option (A × Place)) → Alike Same x y → Alike Same x (b >> y)
  other_test Same true x y h = h
  other_test Same false x y h = missing_alike Same _

  -- ---- flags

  flags_closed : (flags : Flags) (seen t : Text) → Calm t → ReadAlike tail (set_flags flags seen t) (set_flags flags seen (closed tail t))
  unfolding set_flags
  flags_closed flags seen [] h = alike_none tail _
  flags_closed flags seen (c ∷ t) h =
      alike_if tail (c ∈ ":)") _ _ _ _
      (alike_test tail (not (is_at "-" (reverse seen))) _ _ (alike_some tail flags _ _ (refl, h)))
      (alike_test tail (not (list_any (λ d. d == c) seen)) _ _
      (alike_value tail (if c ∈ "-" then Some flags else set_flag flags c (not (list_any (λ d. d ∈ "-") seen))) _ _ (λ changed. flags_closed changed (seen ++ c ∷ []) t (calm_rest c t h))))

  -- A character follows the flags.
  abbrev LeavesSome : Option (Flags × Text) → Type 0
  LeavesSome found = IfSome found (λ result. is_empty result.1 ≡ false)

  some_if : (b : Bool) (x y : Option (Flags × Text)) → LeavesSome x → LeavesSome y → LeavesSome (if b then x else y)
  some_if true x y h k = h
  some_if false x y h k = k

  some_value : (o : Option Flags) (f : Flags → Option (Flags × Text)) → ((flags : Flags) → LeavesSome (f flags)) → LeavesSome (o >>= f)
  some_value None f h = tt
  some_value (Some flags) f h = h flags

  flags_end : (flags : Flags) (seen t : Text) → LeavesSome (set_flags flags seen t)
  unfolding set_flags
  flags_end flags seen [] = tt
  flags_end flags seen (c ∷ t) =
      some_if (c ∈ ":)") _ _ (some_if (not (is_at "-" (reverse seen))) _ None (full tail c t) tt)
      (some_if (not (list_any (λ d. d == c) seen)) _ None
      (some_value (if c ∈ "-" then Some flags else set_flag flags c (not (list_any (λ d. d ∈ "-") seen))) _ (λ changed. flags_end changed (seen ++ c ∷ []) t)) tt)

  -- ---- openings

  abbrev pub SameOpening : Opening → Opening → Type 0
  SameOpening setting setting = Unit {0}
  SameOpening setting (opens make) = ⊥
  SameOpening (opens make) setting = ⊥
  SameOpening (opens make) (opens other) = (a b : Re) → bare b ≡ bare a → bare (other b) ≡ bare (make a)

  capture_closed : (p : Place) (names : Names) (name another : Option (List ℕ)) (t : Text) → Held t p.names names → Alike SameOpening (capture p name t) (capture (beside p names) another (closed tail t))
  unfolding capture
  capture_closed p names name another t h =
      own_test SameOpening (nat_lt (length p.names) (2 ^ 32)) _ _ (λ few.
      other_test SameOpening (nat_lt (length names) (2 ^ 32)) _ _
      (some_alike SameOpening (opens (group (length p.names))) (opens (group (length names))) (record p { names = p.names ++ name ∷ []; text = t }) (names ++ another ∷ []) (λ a b e. ap (group 0) e) (h.0, omega (arith, h.1, length_push names another, length_push p.names name))))

  named_closed : (p : Place) (names : Names) (t : Text) → Held t p.names names → Alike SameOpening (named_group p t) (named_group (beside p names) (closed tail t))
  unfolding named_group
  named_closed p names t h =
      let run = take_run false (λ c. not (c ∈ ">")) t in
      let is_named : Option (List ℕ) → Bool = λ other. is_some_and other (pointwise nat_eq (encode_utf8_all run.0)) in
      own_test SameOpening (is_name run.0) _ _ (λ named.
      own_test SameOpening (is_at ">" run.1) _ _ (λ ends.
      let same = marked_run tail false (λ c. not (c ∈ ">")) ">" t h.0 ends in
      let rest = drop_closed tail ">" run.1 ends same.1.1 in
      rw (same.0, same.1.0, rest.0)
      (other_test SameOpening (is_name run.0) _ _
      (other_test SameOpening (is_at ">" (closed tail run.1)) _ _
      (own_test SameOpening (not (list_any is_named p.names)) _ _ (λ fresh.
      other_test SameOpening (not (list_any is_named names)) _ _
      (capture_closed p names (Some (encode_utf8_all run.0)) (Some (encode_utf8_all run.0)) (drop 1 run.1) (rest.1, h.1))))))))

  word_closed : (w : List ℕ) (t : Text) → starts_with nat_eq t w ≡ true → Calm t → Leaves tail (drop (length w) t) (drop (length w) (closed tail t))
  word_closed [] t e h = (refl, h)
  word_closed (d ∷ w) [] e h = absurd (true≢false (sym e))
  word_closed (d ∷ w) (c ∷ t) e h = word_closed w t (and_parts _ _ e).1 (calm_rest c t h)

  -- The place after flags, up to `:` or `)`.
  abbrev with_flags : Place → Flags × Text → Option (Opening × Place)
  with_flags p found =
      Some (if is_at ")" found.1 then setting else opens (λ re. re), record p { config = record (p.config) { flags = found.0 }; text = drop 1 found.1 })

  with_flags_same : (p : Place) (names : Names) (flags : Flags) (t : Text) → is_empty t ≡ false → Held t p.names names → Alike SameOpening (with_flags p (flags, t)) (with_flags (beside p names) (flags, closed tail t))
  unfolding first
  with_flags_same p names flags [] some h = absurd (true≢false some)
  with_flags_same p names flags (c ∷ t) some h =
      ⊎_elim
      (λ (e : (c ∈ ")") ≡ true). rw e (some_alike SameOpening setting setting (record p { config = record (p.config) { flags = flags }; text = t }) names tt (calm_rest c t h.0, h.1)))
      (λ (e : (c ∈ ")") ≡ false).
      rw e (some_alike SameOpening (opens (λ re. re)) (opens (λ re. re)) (record p { config = record (p.config) { flags = flags }; text = t }) names (λ a b f. f) (calm_rest c t h.0, h.1)))
      (cases_Bool (c ∈ ")"))

  with_flags_closed : (p : Place) (names : Names) (o q : Option (Flags × Text)) → length names + alone ≡ length p.names + there → ReadAlike tail o q → LeavesSome o → Alike SameOpening (o >>= with_flags p) (q >>= with_flags (beside p names))
  with_flags_closed p names None q count h some = none_alike SameOpening _
  with_flags_closed p names (Some found) None count h some = missing_alike SameOpening _
  with_flags_closed p names (Some found) (Some other) count h some =
      let same : other ≡ (found.0, closed tail found.1) = ap₂ (λ a t. (a, t)) h.holds.0 h.holds.1.0 in
      rw same (with_flags_same p names found.0 found.1 some (h.holds.1.1, count))

  -- An opening from its question mark.
  marked_closed : (p : Place) (names : Names) (t : Text) → Held t p.names names
      → Alike SameOpening (not (is_at ")" (drop 1 t)) >> (set_flags p.config.flags [] (drop 1 t) >>= with_flags p))
      (not (is_at ")" (drop 1 (closed tail t))) >> (set_flags p.config.flags [] (drop 1 (closed tail t)) >>= with_flags (beside p names)))
  unfolding first set_flags
  marked_closed p names [] h = none_alike SameOpening _
  marked_closed p names (c ∷ []) h = none_alike SameOpening _
  marked_closed p names (c ∷ d ∷ t) h =
      test_alike SameOpening (not (d ∈ ")")) _ _ (λ e. with_flags_closed p names _ _ h.1 (flags_closed p.config.flags [] (d ∷ t) (calm_rest c (d ∷ t) h.0)) (flags_end p.config.flags [] (d ∷ t)))

  opening_closed : (p : Place) (names : Names) → is_at "(" p.text ≡ true → Held p.text p.names names → Alike SameOpening (opening p) (opening (beside p names))
  unfolding opening
  opening_closed p names e h =
      let t = next (is_verbose p.config) p.text in
      let start = next_closed tail (is_verbose p.config) "(" p.text e h.0 in
      rw (opening, start.0, starts_closed tail (codes "?P<") t refl, starts_closed tail (codes "?<") t refl, at_closed tail "?" t refl)
      (if_alike SameOpening (begins "?P<" t) _ _ _ _ (λ f. let rest = word_closed (codes "?P<") t f start.1 in rw (rest.0) (named_closed p names (drop 3 t) (rest.1, h.1))) (λ f.
      if_alike SameOpening (begins "?<" t) _ _ _ _ (λ g. let rest = word_closed (codes "?<") t g start.1 in rw (rest.0) (named_closed p names (drop 2 t) (rest.1, h.1))) (λ g.
      if_alike SameOpening (not (is_at "?" t)) _ _ _ _ (λ i. capture_closed p names None None t (start.1, h.1)) (λ i. marked_closed p names t (start.1, h.1)))))

  -- ---- groups

  -- The place after the tree.
  abbrev placed : Place → Nested Re × Text → Option (Nested Re × Place)
  placed p found = Some (found.0, record p { text = found.1 })

  placed_closed : (p : Place) (names : Names) (o q : Option (Nested Re × Text)) → length names + alone ≡ length p.names + there → TreeAlike tail o q → Alike (SameTree tail) (o >>= placed p) (q >>= placed (beside p names))
  placed_closed p names None q count h = none_alike (SameTree tail) _
  placed_closed p names (Some found) None count h = missing_alike (SameTree tail) _
  placed_closed p names (Some found) (Some other) count h =
      rw (h.holds.1.0) (some_alike (SameTree tail) found.0 other.0 (record p { text = found.1 }) names h.holds.0 (h.holds.1.1, count))

  with_closed : (tree other : Nested Re) (p : Place) (names : Names) → SameTree tail tree other → Held p.text p.names names → Alike (SameTree tail) (with_repetitions tree p) (with_repetitions other (beside p names))
  unfolding with_repetitions
  with_closed tree other p names same h =
      placed_closed p names _ _ h.1 (repetitions_closed tail p.config (length p.text + 1) (length (closed tail p.text) + 1) tree other p.text same h.0)

  -- A group from the parenthesis that ends it inside the text.
  group_ends : (outside : Config) (names others : Names) (t : Text) (tree other : Nested Re) → SameTree tail tree other → Held t names others
      → Alike (SameTree tail) (is_at ")" t >> with_repetitions tree (record { config = outside; names = names; text = drop 1 t }))
      (is_at ")" (closed tail t) >> with_repetitions other (record { config = outside; names = others; text = drop 1 (closed tail t) }))
  unfolding first
  group_ends outside names others [] tree other same h = none_alike (SameTree tail) _
  group_ends outside names others (c ∷ t) tree other same h =
      test_alike (SameTree tail) (c ∈ ")") _ _ (λ e. with_closed tree other (record { config = outside; names = names; text = t }) others same (calm_rest c t h.0, h.1))

  -- The two inner readers read alike.
  abbrev ReadsAlike : (inner other : Place → Option (Nested Re × Place)) → Type 0
  ReadsAlike inner other = (p : Place) (names : Names) → Held p.text p.names names → Alike (SameTree tail) (inner p) (other (beside p names))

  group_closed : (inner other : Place → Option (Nested Re × Place)) → ReadsAlike inner other → (outside : Config) (how another : Opening) (p : Place) (names : Names) → SameOpening how another → Held p.text p.names names
      → Alike (SameTree tail) (rest_of_group inner outside how p) (rest_of_group other outside another (beside p names))
  group_closed inner other reads outside setting setting p names same h = some_alike (SameTree tail) (flat empty) (flat empty) p names refl h
  group_closed inner other reads outside setting (opens another) p names same h = absurd same
  group_closed inner other reads outside (opens make) setting p names same h = absurd same
  group_closed inner other reads outside (opens make) (opens another) p names same h =
      then_alike (SameTree tail) (SameTree tail) (inner p) (other (beside p names)) _ _ (reads p names h) (λ tree twin close others alike calm.
      group_ends outside close.names others close.text (record { value = make tree.value; depth = tree.depth + 1 }) (record { value = another twin.value; depth = twin.depth + 1 }) (same tree.value twin.value alike) calm)

  abbrev repeated : Place → Nested Re × Text → Option (Nested Re × Place)
  repeated p found = with_repetitions found.0 (record p { text = found.1 })

  atom_repeated : (p : Place) (names : Names) (o q : Option (Nested Re × Text)) → length names + alone ≡ length p.names + there → ReadAlike tail o q → Alike (SameTree tail) (o >>= repeated p) (q >>= repeated (beside p names))
  atom_repeated p names None q count h = none_alike (SameTree tail) _
  atom_repeated p names (Some found) None count h = missing_alike (SameTree tail) _
  atom_repeated p names (Some found) (Some other) count h =
      let same : other ≡ (found.0, closed tail found.1) = ap₂ (λ a t. (a, t)) h.holds.0 h.holds.1.0 in
      rw same (with_closed found.0 found.0 (record p { text = found.1 }) names refl (h.holds.1.1, count))

  item_closed : (inner other : Place → Option (Nested Re × Place)) → ReadsAlike inner other → (p : Place) (names : Names) → Held p.text p.names names → Alike (SameTree tail) (item inner p) (item other (beside p names))
  unfolding item
  item_closed inner other reads p names h =
      rw (item, at_closed tail "(" p.text refl)
      (if_alike (SameTree tail) (is_at "(" p.text) _ _ _ _
      (λ e. then_alike SameOpening (SameTree tail) (opening p) (opening (beside p names)) _ _ (opening_closed p names e h) (λ how another inside others same calm.
      group_closed inner other reads p.config how another inside others same calm))
      (λ e. atom_repeated p names _ _ h.1 (atom_closed tail p.config p.text h.0)))

  -- ---- branches

  abbrev values : List (Nested Re) → List Re
  values trees = map (λ tree. tree.value) trees

  abbrev SameTrees : (trees others : List (Nested Re)) → Type 0
  SameTrees trees others = map bare (values others) ≡ map bare (values trees)

  join_closed : (f : List Re → Re) → ((parts : List Re) → bare (f parts) ≡ f (map bare parts)) → (o q : Option (List (Nested Re) × Place)) → Alike SameTrees o q → Alike (SameTree tail) (join_parts f o) (join_parts f q)
  unfolding join_parts
  join_closed f is_bare o q h =
      then_alike SameTrees (SameTree tail) o q _ _ h (λ trees others p names same calm.
      some_alike (SameTree tail) (join f trees) (join f others) p names (is_bare (values others) ∙ ap f same ∙ sym (is_bare (values trees))) calm)

  -- The items end at the end of the text, or at a mark in it.
  items_go_on : (p : Place) (names : Names) (t : Text) (more another : Option (List (Nested Re) × Place)) → Held t p.names names → (is_empty t ≡ false → Alike SameTrees more another)
      → Alike SameTrees (if is_empty t || is_at "|)" t then Some ([], record p { text = t }) else more)
      (if is_empty (closed tail t) || is_at "|)" (closed tail t) then Some ([], beside (record p { text = t }) names) else another)
  unfolding first
  items_go_on p names [] more another h k = rw (full tail 41 tail) (some_alike SameTrees [] [] (record p { text = [] }) names refl h)
  items_go_on p names (c ∷ t) more another h k =
      rw (full tail c t, full tail c (closed tail t))
      (if_alike SameTrees (c ∈ "|)") _ _ _ _ (λ e. some_alike SameTrees [] [] (record p { text = c ∷ t }) names refl h) (λ e. k (full tail c t)))

  mutual
    unfolding items branches

    items_closed : (n m : ℕ) (p : Place) (names : Names) → Held p.text p.names names → Alike SameTrees (items n p) (items m (beside p names))
    items_closed zero m p names h = none_alike SameTrees _
    items_closed (suc n) zero p names h = missing_alike SameTrees _
    items_closed (suc n) (suc m) p names h =
        let start = skip_closed tail (is_verbose p.config) p.text h.0 in
        let here = skip (is_verbose p.config) p.text in
        rw (start.0.0)
        (items_go_on p names here _ _ (start.0.1, h.1) (λ some.
        then_alike (SameTree tail) SameTrees _ _ _ _
        (item_closed (λ inside. join_parts alt_all (branches n inside)) (λ inside. join_parts alt_all (branches m inside)) (λ q others calm. join_closed alt_all bare_alt_all _ _ (branches_closed n m q others calm)) (record p { text = here }) names (start.0.1, h.1))
        (λ part twin after others same calm.
        then_alike SameTrees SameTrees _ _ _ _ (items_closed n m after others calm) (λ parts twins rest last alike still.
        some_alike SameTrees (part ∷ parts) (twin ∷ twins) rest last (ap₂ (λ a all. a ∷ all) same alike) still))))

    pub branches_closed : (n m : ℕ) (p : Place) (names : Names) → Held p.text p.names names → Alike SameTrees (branches n p) (branches m (beside p names))
    branches_closed zero m p names h = none_alike SameTrees _
    branches_closed (suc n) zero p names h = missing_alike SameTrees _
    branches_closed (suc n) (suc m) p names h =
        then_alike (SameTree tail) SameTrees _ _ _ _ (join_closed cat_all bare_cat_all _ _ (items_closed n m p names h)) (λ branch twin after others same calm.
        rw (at_closed tail "|" after.text refl)
        (if_alike SameTrees (not (is_at "|" after.text)) _ _ _ _ (λ e. some_alike SameTrees (branch ∷ []) (twin ∷ []) after others (ap (λ a. a ∷ []) same) calm) (λ e.
        let rest = drop_closed tail "|" after.text (true_of_not (is_at "|" after.text) e) calm.0 in
        rw (rest.0)
        (then_alike SameTrees SameTrees _ _ _ _ (branches_closed n m (record after { text = drop 1 after.text }) others (rest.1, calm.1)) (λ parts twins last names' alike still.
        some_alike SameTrees (branch ∷ parts) (twin ∷ twins) last names' (ap₂ (λ a all. a ∷ all) same alike) still)))))

  -- The text by itself is read as in a group.
  pub inside_closed : (n m : ℕ) (p : Place) (names : Names) → Held p.text p.names names → Alike (SameTree tail) (join_parts alt_all (branches n p)) (join_parts alt_all (branches m (beside p names)))
  inside_closed n m p names h = join_closed alt_all bare_alt_all _ _ (branches_closed n m p names h)
