-- How the crate `regex` reads the text of items, with their quantifiers and groups.
use Rattle.std.proofs.Common.{◌≡◌, ℕ, suc, ◌+◌, ◌-◌, ◌*◌, ◌^◌, ◌≤◌, ◌<◌, List, [], ◌∷◌, ◌++◌, length, replicate, Option, Some, None, Bool, true, false, ◌||◌, ◌==◌, refl, sym, ap, ◌∙◌, subst, arith, ne_eqb, lt-ltb, append_assoc, append-nil, length-append, nat_eq}
use Rattle.std.proofs.lemmas.Bool.{and_left, both_ways}
use Rattle.std.proofs.lemmas.List.{length-replicate, replicate_more}
use Rattle.std.specs.List.{starts_with}
use Rattle.regex_hir.specs.Meaning.{cat_all, alt_all, repeat}
use Rattle.regex_hir.specs.Re.{Re, group}
use Rattle.regex_syntax.proofs.BranchLemmas.{ends_branch, Read, more_repetitions, repetitions_end, repetitions_go, join_after, branch_ends, branch_goes, more_parts, group_inside, join_parts_is, branches_go, more_branches, join_ends}
use Rattle.regex_syntax.specs.Brackets.{Nested, join}
use Rattle.regex_syntax.specs.Grammar.{Names, Place, atom, bounds, repetitions, with_repetitions, item, items, opening, capture, set_flags, rest_of_group, opens}
use Rattle.regex_syntax.specs.Reading.{Text, first, skip, is_at, ◌>>=◌}
use Rattle.regex_syntax.specs.declared.Config.{Config}
use Rattle.urlpattern_syntax.specs.RegexpText.{regexp_marks}
use Rattle.urlpattern_meaning.specs.Dialect.{Character, Plain, Escaped, character_of, character_text, IsCharacter, Quantifier, Once, Optional, ZeroOrMore, OneOrMore, LazyOneOrMore, quantifier_text, Items, Nothing, Item, Atom, Literal, Dot, AnyBut, Captured, Grouped, items_text, atom_text, group_count, atom_group_count, AreItems, IsAtom}
use Rattle.urlpattern_expressions.specs.Expressions.{config_for}
use Rattle.urlpattern_engine.proofs.TreeAttempts.{re_taken}
use Rattle.urlpattern_engine.proofs.AtomsRead.{differs, itself, any_character, any_but, read_character, read_dot, read_class, full}

abbrev pub Free : Text → Type 0
Free t = is_at "?*+{" t ≡ false

-- ---- quantifiers

abbrev pub repeated_as : Quantifier → Nested Re → Nested Re
repeated_as Once sub = sub
repeated_as Optional sub = record { value = re_taken Optional sub.value; depth = sub.depth + 1 }
repeated_as ZeroOrMore sub = record { value = re_taken ZeroOrMore sub.value; depth = sub.depth + 1 }
repeated_as OneOrMore sub = record { value = re_taken OneOrMore sub.value; depth = sub.depth + 1 }
repeated_as LazyOneOrMore sub = record { value = re_taken LazyOneOrMore sub.value; depth = sub.depth + 1 }

left_false : (a b : Bool) → (a || b) ≡ false → a ≡ false
left_false true b h = h
left_false false b h = refl

pub free_lazy : (t : Text) → Free t → is_at "?" t ≡ false
unfolding first
free_lazy [] h = refl
free_lazy (c ∷ t) h = left_false (c == 63) _ h

-- ---- what begins a text

-- A free text does not begin with a word that begins with a question mark.
pub begins_no : (word : List ℕ) (t : Text) → Free t → starts_with nat_eq t (63 ∷ word) ≡ false
unfolding first
begins_no word [] h = refl
begins_no word (c ∷ t) h = and_left _ _ (ne_eqb 63 c (λ e. both_ways _ (left_false (c == 63) _ h) (ap (λ d. d == 63) (sym e))))

abbrev pub OpensItem : Text → Type 0
OpensItem t = Free t × (ends_branch t ≡ false)

pub opens_item : (atom : Atom) → IsAtom atom → (more : Text) → OpensItem (atom_text atom ++ more)
unfolding first
opens_item (Literal (Plain c)) h more = (
  rw (differs regexp_marks c 63 h refl, differs regexp_marks c 42 h refl, differs regexp_marks c 43 h refl, differs regexp_marks c 123 h refl),
  rw (full c more, differs regexp_marks c 124 h refl, differs regexp_marks c 41 h refl),
)
opens_item (Literal (Escaped c)) h more = (refl, rw (full 92 (c ∷ more)))
opens_item Dot h more = (refl, rw (full 46 more))
opens_item (AnyBut character) h more = (refl, rw (full 91 (94 ∷ (character_text character ++ 93 ∷ []) ++ more)))
opens_item (Captured items) h more = (refl, rw (full 40 ((items_text items ++ 41 ∷ []) ++ more)))
opens_item (Grouped items) h more = (refl, rw (full 40 (63 ∷ 58 ∷ (items_text items ++ 41 ∷ []) ++ more)))

pub item_length : (a : Atom) (q : Quantifier) (more : Text) → length (atom_text a ++ (quantifier_text q ++ more)) ≡ length (atom_text a) + (length (quantifier_text q) + length more)
item_length a q more = length-append (atom_text a) (quantifier_text q ++ more) ∙ ap (λ l. length (atom_text a) + l) (length-append (quantifier_text q) more)

-- Bounds for the length of a text from its first item, and after that item.
pub record FirstItem (a : Atom) (q : Quantifier) (more : Text) (n : ℕ) : Type 0 where
  pub whole : 2 * length (atom_text a ++ (quantifier_text q ++ more)) < n
  pub behind : 2 * length more < n - 1

pub item_splits : (atom : Atom) (q : Quantifier) (items : Items) (rest : Text)
    → items_text (Item atom q items) ++ rest ≡ atom_text atom ++ (quantifier_text q ++ (items_text items ++ rest))
item_splits atom q items rest =
    append_assoc (atom_text atom ++ quantifier_text q) (items_text items) rest
    ∙ append_assoc (atom_text atom) (quantifier_text q) (items_text items ++ rest)

pub atom_length : (atom : Atom) → 0 < length (atom_text atom)
atom_length (Literal (Plain c)) = omega arith
atom_length (Literal (Escaped c)) = omega arith
atom_length Dot = omega arith
atom_length (AnyBut character) = omega arith
atom_length (Captured items) = omega arith
atom_length (Grouped items) = omega arith

pub first_item : (a : Atom) (q : Quantifier) (items : Items) (rest : Text) (n : ℕ) → 2 * length (items_text (Item a q items) ++ rest) < n
    → FirstItem a q (items_text items ++ rest) n
first_item a q items rest n le =
    let more = items_text items ++ rest in
    let whole : 2 * length (atom_text a ++ (quantifier_text q ++ more)) < n = subst (λ t. 2 * length t < n) (item_splits a q items rest) le in
    record { whole = whole; behind = omega (arith, item_length a q more, atom_length a) }

pub free_items : (tree : Items) → AreItems tree → (rest : Text) → Free rest → Free (items_text tree ++ rest)
free_items Nothing h rest free = free
free_items (Item atom q items) h rest free =
    subst Free (sym (item_splits atom q items rest)) (opens_item atom h.0 (quantifier_text q ++ (items_text items ++ rest))).0

-- ---- groups

abbrev pub level : (Re → Re) → Nested Re → Nested Re
level make sub = record { value = make sub.value; depth = sub.depth + 1 }

abbrev pub alone_in : List (Nested Re) → Nested Re
alone_in parts = join alt_all (join cat_all parts ∷ [])

no_group : (ch : Character) → IsCharacter ch → (rest : Text) → is_at "(" (character_text ch ++ rest) ≡ false
unfolding first
no_group (Plain c) h rest = differs regexp_marks c 40 h refl
no_group (Escaped c) h rest = refl

pub brackets : (t tail : Text) → (t ++ 41 ∷ []) ++ tail ≡ t ++ 41 ∷ tail
brackets t tail = append_assoc t (41 ∷ []) tail

module _ (ignore_case : Bool) where
  abbrev config : Config
  config = config_for ignore_case

  -- The place before a text, after groups with these names.
  abbrev pub at_text : Names → Text → Place
  at_text names t = record { config = config; names = names; text = t }

  -- The place before a text, after g groups without names.
  abbrev pub place : ℕ → Text → Place
  place g t = at_text (replicate g None) t

  -- ---- quantifiers

  -- A quantifier of a single mark.
  marked : (q : Quantifier) (mark : ℕ) (sub : Nested Re) (names : Names) (rest : Text) → Free rest → is_at "?*+{" (mark ∷ rest) ≡ true
      → (bounds config (mark ∷ rest) >>= more_repetitions config (length (mark ∷ rest)) sub) ≡ repetitions config (length (mark ∷ rest)) (repeated_as q sub) rest
      → with_repetitions sub (at_text names (mark ∷ rest)) ≡ Some (repeated_as q sub, at_text names rest)
  unfolding with_repetitions first skip
  marked q mark sub names rest free is_mark takes =
      rw (
        with_repetitions,
        repetitions_go config (length (mark ∷ rest) + 1) (length (mark ∷ rest)) sub (mark ∷ rest) (mark ∷ rest) (omega arith) refl is_mark,
        takes,
        repetitions_end config (length (mark ∷ rest)) (length rest) (repeated_as q sub) rest rest (omega arith) refl free,
      )

  pub quantified : (q : Quantifier) (sub : Nested Re) (names : Names) (rest : Text) → Free rest
      → with_repetitions sub (at_text names (quantifier_text q ++ rest)) ≡ Some (repeated_as q sub, at_text names rest)
  unfolding with_repetitions bounds repeat first skip
  quantified Once sub names rest free =
      rw (with_repetitions, repetitions_end config (length rest + 1) (length rest) sub rest rest (omega arith) refl free)
  quantified Optional sub names rest free = marked Optional 63 sub names rest free refl (rw (free_lazy rest free))
  quantified ZeroOrMore sub names rest free = marked ZeroOrMore 42 sub names rest free refl (rw (free_lazy rest free))
  quantified OneOrMore sub names rest free = marked OneOrMore 43 sub names rest free refl (rw (free_lazy rest free))
  quantified LazyOneOrMore sub names rest free =
      rw (
        with_repetitions,
        repetitions_go config (length (43 ∷ 63 ∷ rest) + 1) (length (43 ∷ 63 ∷ rest)) sub (43 ∷ 63 ∷ rest) (43 ∷ 63 ∷ rest) (omega arith) refl refl,
        repetitions_end config (length (43 ∷ 63 ∷ rest)) (length (63 ∷ rest)) (repeated_as LazyOneOrMore sub) rest rest (omega arith) refl free,
      )

  -- An atom that is not a group, and its quantifier.
  pub item_of_atom : (inner : Place → Read (Nested Re)) (t : Text) (q : Quantifier) (rest : Text) (sub : Nested Re) (g : ℕ) → is_at "(" t ≡ false
      → atom config t ≡ Some (sub, quantifier_text q ++ rest) → Free rest → item inner (place g t) ≡ Some (repeated_as q sub, place g rest)
  unfolding item
  item_of_atom inner t q rest sub g no_group reads free = rw (item, no_group, reads) (quantified q sub (replicate g None) rest free)

  -- ---- groups

  abbrev mutual
    pub parts : ℕ → Items → List (Nested Re)
    parts g Nothing = []
    parts g (Item atom q items) = repeated_as q (part g atom) ∷ parts (g + atom_group_count atom) items

    pub part : ℕ → Atom → Nested Re
    part g (Literal character) = itself ignore_case (character_of character)
    part g Dot = any_character ignore_case
    part g (AnyBut character) = any_but ignore_case (character_of character)
    part g (Captured items) = level (group g) (alone_in (parts (suc g) items))
    part g (Grouped items) = level (λ re. re) (alone_in (parts g items))

  -- A capturing group is opened.
  pub opens_as : (names : Names) (t : Text) → Free t → opening (at_text names (40 ∷ t)) ≡ capture (at_text names (40 ∷ t)) None t
  unfolding opening first skip
  opens_as names t free = rw (opening, begins_no (80 ∷ 60 ∷ []) t free, begins_no (60 ∷ []) t free, free_lazy t free)

  counted : (g : ℕ) (t : Text) → g < 2 ^ 32 → capture (place g (40 ∷ t)) None t ≡ Some (opens (group g), place (suc g) t)
  unfolding capture
  counted g t small =
      let none : Option (List ℕ) = None in
      let next : g + 1 ≡ suc g = omega arith in
      rw (capture, length-replicate g none, lt-ltb g (2 ^ 32) small)
      (ap (λ (names : Names). Some (opens (group g), record { config = config; names = names; text = t })) (replicate_more g none ∙ ap (λ k. replicate k none) next))

  pub opens_captured : (g : ℕ) (t : Text) → Free t → g < 2 ^ 32 → opening (place g (40 ∷ t)) ≡ Some (opens (group g), place (suc g) t)
  opens_captured g t free small = opens_as (replicate g None) t free ∙ counted g t small

  pub opens_grouped : (g : ℕ) (t : Text) → opening (place g (40 ∷ 63 ∷ 58 ∷ t)) ≡ Some (opens (λ re. re), place g t)
  unfolding opening set_flags first skip
  opens_grouped g t = refl

  -- The end of a group, and its quantifier.
  closed : (sub : Nested Re) (make : Re → Re) (g : ℕ) (q : Quantifier) (more : Text) (inner : Place → Read (Nested Re)) (inside : Place) → Free more
      → inner inside ≡ Some (sub, place g (41 ∷ (quantifier_text q ++ more)))
      → rest_of_group inner config (opens make) inside ≡ Some (repeated_as q (level make sub), place g more)
  unfolding first
  closed sub make g q more inner inside free reads = rw (rest_of_group, reads) (quantified q (level make sub) (replicate g None) more free)

  -- The body of a group.
  branch_read : (tree : Items) (g h : ℕ) (rest : Text) (top n m : ℕ) → top ≡ suc n
      → join_after cat_all [] (items n (place g (items_text tree ++ 41 ∷ rest))) ≡ join_after cat_all (parts g tree) (items m (place h (41 ∷ rest)))
      → 0 < m → group_inside top (place g (items_text tree ++ 41 ∷ rest)) ≡ Some (alone_in (parts g tree), place h (41 ∷ rest))
  unfolding first skip
  branch_read tree g h rest top n m e same le =
      join_parts_is alt_all _ ∙ branches_go top n [] _ e
      ∙ ap (λ o. o >>= more_branches n []) (join_parts_is cat_all _ ∙ same ∙ branch_ends m (m - 1) (parts g tree) (place h (41 ∷ rest)) (41 ∷ rest) (omega arith) refl (rw (full 41 rest)))
      ∙ join_ends alt_all (join cat_all (parts g tree) ∷ []) _

  -- A group with its quantifier.
  group_item : (sub : Nested Re) (make : Re → Re) (g h k : ℕ) {inside : Text} (t : Text) (q : Quantifier) (more : Text) (m : ℕ)
      → opening (place g (40 ∷ t)) ≡ Some (opens make, place h inside) → Free more → group_inside m (place h inside) ≡ Some (sub, place k (41 ∷ (quantifier_text q ++ more)))
      → item (group_inside m) (place g (40 ∷ t)) ≡ Some (repeated_as q (level make sub), place k more)
  unfolding item first
  group_item sub make g h k {inside} t q more m is_open free reads = rw (item, is_open) (closed sub make k q more (group_inside m) (place h inside) free reads)

  -- ---- items

  abbrev pub AreRead : ℕ → Items → Text → ℕ → List (Nested Re) → Type 0
  AreRead g tree rest n earlier =
      (m : ℕ) × (2 * length rest < m)
      × (join_after cat_all earlier (items n (place g (items_text tree ++ rest))) ≡ join_after cat_all (earlier ++ parts g tree) (items m (place (g + group_count tree) rest)))

  -- The first item, and the others.
  goes_on : (a : Atom) (q : Quantifier) (tree : Items) (g : ℕ) (rest : Text) (n : ℕ) (earlier : List (Nested Re))
      → join_after cat_all earlier (items n (place g (items_text (Item a q tree) ++ rest)))
      ≡ join_after cat_all (earlier ++ repeated_as q (part g a) ∷ []) (items (n - 1) (place (g + atom_group_count a) (items_text tree ++ rest)))
      → AreRead (g + atom_group_count a) tree rest (n - 1) (earlier ++ repeated_as q (part g a) ∷ []) → AreRead g (Item a q tree) rest n earlier
  goes_on a q tree g rest n earlier one (m, le, others) =
      let k = g + atom_group_count a in
      let count : k + group_count tree ≡ g + (atom_group_count a + group_count tree) = omega arith in (
        m,
        le,
        one ∙ others
            ∙ ap (λ all. join_after cat_all all (items m (place (k + group_count tree) rest))) (append_assoc earlier (repeated_as q (part g a) ∷ []) (parts k tree))
            ∙ ap (λ (j : ℕ). join_after cat_all (earlier ++ parts g (Item a q tree)) (items m (place j rest))) count,
      )

  mutual
    unfolding first skip item

    pub items-read : (tree : Items) → AreItems tree → (g : ℕ) → g + group_count tree ≤ 2 ^ 32 → (rest : Text) → Free rest → (n : ℕ)
        → 2 * length (items_text tree ++ rest) < n → (earlier : List (Nested Re)) → AreRead g tree rest n earlier
    items-read Nothing h g small rest free n le earlier =
        let same : g ≡ g + 0 = omega arith in
        (n, le, ap (λ (k : ℕ). join_after cat_all earlier (items n (place k rest))) same ∙ ap (λ all. join_after cat_all all (items n (place (g + 0) rest))) (sym (append-nil earlier)))
    items-read (Item a q tree) h g small rest free n le earlier =
        let more = items_text tree ++ rest in
        let text = atom_text a ++ (quantifier_text q ++ more) in
        let long = first_item a q tree rest n le in
        let one = atom-read a h.0 g (omega arith) q more (free_items tree h.2 rest free) (n - 1) (omega arith) in
        goes_on a q tree g rest n earlier
        (ap (λ t. join_after cat_all earlier (items n (place g t))) (item_splits a q tree rest)
        ∙ branch_goes n (n - 1) earlier (place g text) text (omega arith) refl (opens_item a h.0 (quantifier_text q ++ more)).1
        ∙ ap (λ o. o >>= more_parts (n - 1) earlier) one)
        (items-read tree h.2 (g + atom_group_count a) (omega arith) rest free (n - 1) long.behind (earlier ++ repeated_as q (part g a) ∷ []))

    pub atom-read : (a : Atom) → IsAtom a → (g : ℕ) → g + atom_group_count a ≤ 2 ^ 32 → (q : Quantifier) (more : Text) → Free more → (m : ℕ)
        → 2 * length (atom_text a ++ (quantifier_text q ++ more)) ≤ m
        → item (group_inside m) (place g (atom_text a ++ (quantifier_text q ++ more))) ≡ Some (repeated_as q (part g a), place (g + atom_group_count a) more)
    atom-read (Literal ch) h g small q more free m le =
        let same : g ≡ g + 0 = omega arith in
        let tail = quantifier_text q ++ more in
        item_of_atom (group_inside m) (character_text ch ++ tail) q more (itself ignore_case (character_of ch)) g (no_group ch h tail) (read_character ignore_case ch tail h) free
        ∙ ap (λ (j : ℕ). Some (repeated_as q (part g (Literal ch)), place j more)) same
    atom-read Dot h g small q more free m le =
        let same : g ≡ g + 0 = omega arith in
        let tail = quantifier_text q ++ more in
        item_of_atom (group_inside m) (46 ∷ tail) q more (any_character ignore_case) g refl (read_dot ignore_case tail) free
        ∙ ap (λ (j : ℕ). Some (repeated_as q (part g Dot), place j more)) same
    atom-read (AnyBut ch) h g small q more free m le =
        let same : g ≡ g + 0 = omega arith in
        let tail = quantifier_text q ++ more in
        ap (λ t. item (group_inside m) (place g (91 ∷ 94 ∷ t))) (append_assoc (character_text ch) (93 ∷ []) tail)
        ∙ item_of_atom (group_inside m) (91 ∷ 94 ∷ (character_text ch ++ 93 ∷ tail)) q more (any_but ignore_case (character_of ch)) g refl (read_class ignore_case ch tail h) free
        ∙ ap (λ (j : ℕ). Some (repeated_as q (part g (AnyBut ch)), place j more)) same
    atom-read (Captured tree) h g small q more free m le =
        let same : suc g + group_count tree ≡ g + suc (group_count tree) = omega arith in
        let tail = quantifier_text q ++ more in
        let t = items_text tree ++ 41 ∷ tail in
        let split : (items_text tree ++ 41 ∷ []) ++ tail ≡ t = append_assoc (items_text tree) (41 ∷ []) tail in
        let fuel : 2 * length (40 ∷ t) ≤ m = subst (λ (s : Text). 2 * length (40 ∷ s) ≤ m) split le in
        let inside = items-read tree h (suc g) (omega arith) (41 ∷ tail) refl (m - 1) (omega arith) [] in
        let whole = branch_read tree (suc g) (suc g + group_count tree) tail m (m - 1) inside.0 (omega arith) inside.2 (omega arith) in
        ap (λ s. item (group_inside m) (place g (40 ∷ s))) split
        ∙ group_item (alone_in (parts (suc g) tree)) (group g) g (suc g) (suc g + group_count tree) t q more m (opens_captured g t (free_items tree h (41 ∷ tail) refl) (omega arith)) free whole
        ∙ ap (λ (j : ℕ). Some (repeated_as q (part g (Captured tree)), place j more)) same
    atom-read (Grouped tree) h g small q more free m le =
        let tail = quantifier_text q ++ more in
        let t = items_text tree ++ 41 ∷ tail in
        let split : (items_text tree ++ 41 ∷ []) ++ tail ≡ t = append_assoc (items_text tree) (41 ∷ []) tail in
        let fuel : 2 * length (40 ∷ 63 ∷ 58 ∷ t) ≤ m = subst (λ (s : Text). 2 * length (40 ∷ 63 ∷ 58 ∷ s) ≤ m) split le in
        let inside = items-read tree h g (omega arith) (41 ∷ tail) refl (m - 1) (omega arith) [] in
        let whole = branch_read tree g (g + group_count tree) tail m (m - 1) inside.0 (omega arith) inside.2 (omega arith) in
        ap (λ s. item (group_inside m) (place g (40 ∷ 63 ∷ 58 ∷ s))) split
        ∙ group_item (alone_in (parts g tree)) (λ re. re) g g (g + group_count tree) (63 ∷ 58 ∷ t) q more m (opens_grouped g t) free whole
