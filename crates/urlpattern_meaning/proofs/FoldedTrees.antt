-- Where case is ignored, a tree matches a text as the folded tree matches the folded text.
use Rattle.std.proofs.Common.{◌≡◌, ℕ, zero, suc, ◌+◌, ◌≤◌, ◌⊎◌, Bool, true, false, List, [], ◌∷◌, ◌++◌, map, length, find, replicate, Option, Some, None, option_map, cond, not, ◌==◌, refl, sym, ap, ap₂, ◌∙◌, inl, inr, arith, ne_eqb}
use Rattle.std.proofs.lemmas.Bool.{cases_lt}
use Rattle.std.proofs.lemmas.Str.Ascii.{lowercase_is}
use Rattle.std.specs.Prelude.{nat_lt}
use Rattle.std.proofs.lemmas.List.{length-map, map-append}
use Rattle.std.specs.Char.{to_ascii_lowercase}
use Rattle.urlpattern_meaning.specs.Dialect.{Quantifier, Once, Optional, ZeroOrMore, OneOrMore, LazyOneOrMore, Items, Nothing, Item, Atom, Literal, Dot, AnyBut, Captured, Grouped, Character, Plain, Escaped, character_of, atom_group_count, group_count}
use Rattle.urlpattern_meaning.specs.Matching.{folded, folded_captures, folded_character, is_same_character}
use Rattle.urlpattern_meaning.specs.Ways.{Way, WaysByText, atom_ways, atom_ways_by, capturing, continued, first_way, first_way_by, folded_atom, folded_items, folded_written, empty_way, is_shorter, joined_way, looped, more_rounds, one_that, ordered, quantified_ways, ways, ways_by}
use Rattle.urlpattern_syntax.specs.Text.{line_feed}

-- ---- trees

-- The second character is the first, folded.
abbrev pub IsFoldedCharacter : Character → Character → Type 0
IsFoldedCharacter character other = character_of other ≡ folded_character true (character_of character)

abbrev mutual
  -- The second tree is the first with its characters folded.
  pub IsFolding : Items → Items → Type 0
  IsFolding Nothing Nothing = Unit {0}
  IsFolding (Item atom quantifier items) (Item other also others) = IsAtomFolding atom other × (quantifier ≡ also) × IsFolding items others
  IsFolding Nothing (Item other also others) = ⊥
  IsFolding (Item atom quantifier items) Nothing = ⊥

  pub IsAtomFolding : Atom → Atom → Type 0
  IsAtomFolding (Literal character) (Literal other) = IsFoldedCharacter character other
  IsAtomFolding Dot Dot = Unit {0}
  IsAtomFolding (AnyBut character) (AnyBut other) = IsFoldedCharacter character other
  IsAtomFolding (Captured items) (Captured others) = IsFolding items others
  IsAtomFolding (Grouped items) (Grouped others) = IsFolding items others
  IsAtomFolding atom other = ⊥

folds_written : (character : Character) → IsFoldedCharacter character (folded_written character)
folds_written (Plain c) = refl
folds_written (Escaped c) = refl

mutual
  pub folds_itself : (items : Items) → IsFolding items (folded_items items)
  folds_itself Nothing = tt
  folds_itself (Item atom quantifier items) = (folds_atom atom, refl, folds_itself items)

  folds_atom : (atom : Atom) → IsAtomFolding atom (folded_atom atom)
  folds_atom (Literal character) = folds_written character
  folds_atom Dot = tt
  folds_atom (AnyBut character) = folds_written character
  folds_atom (Captured items) = folds_itself items
  folds_atom (Grouped items) = folds_itself items

-- ---- ways

abbrev lower : List ℕ → List ℕ
lower text = map to_ascii_lowercase text

abbrev pub folded_way : Way → Way
folded_way way = record { taken = lower way.taken; captures = folded_captures way.captures; rest = lower way.rest }

abbrev all_folded : List Way → List Way
all_folded ways = map folded_way ways

-- The ways of the first choice, folded, are those in which the second matches the folded text.
abbrev Folds : WaysByText → WaysByText → Type 0
Folds choice other = (text : List ℕ) → all_folded (choice text) ≡ other (lower text)

none_folded : (n : ℕ) → folded_captures (replicate n None) ≡ replicate n None
none_folded zero = refl
none_folded (suc n) = ap (λ l. None ∷ l) (none_folded n)

idle_folded : (groups : ℕ) (text : List ℕ) → folded_way (empty_way groups text) ≡ empty_way groups (lower text)
idle_folded groups text = ap (λ c. record { taken = []; captures = c; rest = lower text }) (none_folded groups)

joined_folded : (way next : Way) → folded_way (joined_way way next) ≡ joined_way (folded_way way) (folded_way next)
joined_folded way next =
    ap₂ (λ t c. record { taken = t; captures = c; rest = lower next.rest }) (map-append to_ascii_lowercase way.taken next.taken)
    (map-append (λ (capture : Option (List ℕ)). option_map (folded true) capture) way.captures next.captures)

all_joined : (way : Way) (ways : List Way) → all_folded (map (joined_way way) ways) ≡ map (joined_way (folded_way way)) (all_folded ways)
all_joined way [] = refl
all_joined way (next ∷ ways) = ap₂ ◌∷◌ (joined_folded way next) (all_joined way ways)

all_captured : (ways : List Way) → all_folded (map capturing ways) ≡ map capturing (all_folded ways)
all_captured [] = refl
all_captured (way ∷ ways) = ap (λ l. capturing (folded_way way) ∷ l) (all_captured ways)

continued_folded : (next other : WaysByText) → Folds next other → (ways : List Way) → all_folded (continued next ways) ≡ continued other (all_folded ways)
continued_folded next other folds [] = refl
continued_folded next other folds (way ∷ ways) =
    map-append folded_way (map (joined_way way) (next way.rest)) (continued next ways)
    ∙ ap₂ ◌++◌ (all_joined way (next way.rest) ∙ ap (map (joined_way (folded_way way))) (folds way.rest)) (continued_folded next other folds ways)

ordered_folded : (greedy : Bool) (going stopping : List Way) → all_folded (ordered greedy going stopping) ≡ ordered greedy (all_folded going) (all_folded stopping)
ordered_folded true going stopping = map-append folded_way going stopping
ordered_folded false going stopping = map-append folded_way stopping going

one_folded : (passes also : ℕ → Bool) → ((c : ℕ) → passes c ≡ also (to_ascii_lowercase c)) → Folds (one_that passes) (one_that also)
one_folded passes also same [] = refl
one_folded passes also same (c ∷ text) =
    by (passes c) ∙ ap (λ b. cond b (record { taken = to_ascii_lowercase c ∷ []; captures = []; rest = lower text } ∷ []) []) (same c)
  where
    by : (b : Bool) → all_folded (cond b (record { taken = c ∷ []; captures = []; rest = text } ∷ []) [])
        ≡ cond b (record { taken = to_ascii_lowercase c ∷ []; captures = []; rest = lower text } ∷ []) []
    by true = refl
    by false = refl

-- ---- loops

shorter_folded : (rest text : List ℕ) → is_shorter rest text ≡ is_shorter (lower rest) (lower text)
shorter_folded rest text = ap₂ (λ m n. nat_lt m n) (sym (length-map rest to_ascii_lowercase)) (sym (length-map text to_ascii_lowercase))

either_folded : (b also : Bool) (xs ys xs' ys' : List Way) → b ≡ also → all_folded xs ≡ xs' → all_folded ys ≡ ys' → all_folded (cond b xs ys) ≡ cond also xs' ys'
either_folded true also xs ys xs' ys' same one two = one ∙ ap (λ b. cond b xs' ys') same
either_folded false also xs ys xs' ys' same one two = two ∙ ap (λ b. cond b xs' ys') same

module _ (greedy : Bool) (atom other : WaysByText) (folds : Folds atom other) where
  rounds_folded : (n : ℕ) → Folds (more_rounds greedy atom n) (more_rounds greedy other n)
  rounds_folded zero text = ap (λ w. w ∷ []) (idle_folded 0 text)
  rounds_folded (suc n) text =
      ordered_folded greedy (continued next (atom text)) (empty_way 0 text ∷ [])
      ∙ ap₂ (ordered greedy)
      (continued_folded next also (λ rest. either_folded (is_shorter rest text) (is_shorter (lower rest) (lower text)) _ _ _ _ (shorter_folded rest text) (rounds_folded n rest) refl) (atom text)
      ∙ ap (continued also) (folds text))
      (ap (λ w. w ∷ []) (idle_folded 0 text))
    where
      next : WaysByText
      next rest = cond (is_shorter rest text) (more_rounds greedy atom n rest) []

      also : WaysByText
      also rest = cond (is_shorter rest (lower text)) (more_rounds greedy other n rest) []

  looped_folded : Folds (looped greedy atom) (looped greedy other)
  looped_folded text =
      continued_folded next also
      (λ rest.
      either_folded (is_shorter rest text) (is_shorter (lower rest) (lower text)) _ _ _ _ (shorter_folded rest text)
      (rounds_folded (length rest) rest ∙ ap (λ n. more_rounds greedy other n (lower rest)) (sym (length-map rest to_ascii_lowercase)))
      (ap (λ w. w ∷ []) (idle_folded 0 rest)))
      (atom text)
      ∙ ap (continued also) (folds text)
    where
      next : WaysByText
      next rest = cond (is_shorter rest text) (more_rounds greedy atom (length rest) rest) (empty_way 0 rest ∷ [])

      also : WaysByText
      also rest = cond (is_shorter rest (lower text)) (more_rounds greedy other (length rest) rest) (empty_way 0 rest ∷ [])

or_idle : (groups : ℕ) (choice other : WaysByText) → Folds choice other → Folds (λ text. choice text ++ empty_way groups text ∷ []) (λ text. other text ++ empty_way groups text ∷ [])
or_idle groups choice other folds text =
    map-append folded_way (choice text) (empty_way groups text ∷ []) ∙ ap₂ (λ xs w. xs ++ w ∷ []) (folds text) (idle_folded groups text)

quantified_folded : (quantifier : Quantifier) (groups : ℕ) (atom other : WaysByText) → Folds atom other → Folds (quantified_ways quantifier groups atom) (quantified_ways quantifier groups other)
quantified_folded Once groups atom other folds = folds
quantified_folded Optional groups atom other folds = or_idle groups atom other folds
quantified_folded ZeroOrMore groups atom other folds = or_idle groups (looped true atom) (looped true other) (looped_folded true atom other folds)
quantified_folded OneOrMore groups atom other folds = looped_folded true atom other folds
quantified_folded LazyOneOrMore groups atom other folds = looped_folded false atom other folds

-- ---- whole trees

mutual
  groups_folded : (items others : Items) → IsFolding items others → group_count items ≡ group_count others
  groups_folded Nothing Nothing is = refl
  groups_folded (Item atom quantifier items) (Item other also others) is = ap₂ (λ m n. m + n) (atom_groups_folded atom other is.0) (groups_folded items others is.2)
  groups_folded Nothing (Item other also others) is = absurd is
  groups_folded (Item atom quantifier items) Nothing is = absurd is

  atom_groups_folded : (atom other : Atom) → IsAtomFolding atom other → atom_group_count atom ≡ atom_group_count other
  atom_groups_folded (Literal character) (Literal other) is = refl
  atom_groups_folded Dot Dot is = refl
  atom_groups_folded (AnyBut character) (AnyBut other) is = refl
  atom_groups_folded (Captured items) (Captured others) is = ap suc (groups_folded items others is)
  atom_groups_folded (Grouped items) (Grouped others) is = groups_folded items others is
  atom_groups_folded atom other is = absurd is

-- An upper case letter is moved, and any other character is kept.
pub moved_or_same : (c : ℕ) → ((65 ≤ c) × (c ≤ 90) × (to_ascii_lowercase c ≡ c + 32)) ⊎ (to_ascii_lowercase c ≡ c)
moved_or_same c = elim (cases_lt c 65) [
  | inl before ↦ inr ((lowercase_is c).1 before)
  | inr at_least ↦ elim (cases_lt 90 c) [
    | inl after ↦ inr ((lowercase_is c).2 after)
    | inr at_most ↦ inl (at_least, at_most, (lowercase_is c).0 (at_least, at_most))
  ]
]

-- Only a line feed equals a line feed, whether case is ignored or kept.
pub line_feed_same : (ignore_case : Bool) (c : ℕ) → is_same_character ignore_case c line_feed ≡ (c == line_feed)
line_feed_same false c = refl
line_feed_same true c = by (moved_or_same c)
  where
    by : ((65 ≤ c) × (c ≤ 90) × (to_ascii_lowercase c ≡ c + 32)) ⊎ (to_ascii_lowercase c ≡ c) → (to_ascii_lowercase c == 10) ≡ (c == 10)
    by (inl (at_least, at_most, moved)) =
        ne_eqb (to_ascii_lowercase c) 10 (λ e. absurd (omega (arith, moved, e, at_least))) ∙ sym (ne_eqb c 10 (λ e. absurd (omega (arith, e, at_least))))
    by (inr same) = ap (λ d. d == 10) same

character_folded : (character other : Character) → IsFoldedCharacter character other → (c : ℕ) → is_same_character true c (character_of character) ≡ (to_ascii_lowercase c == character_of other)
character_folded character other is c = ap (λ d. to_ascii_lowercase c == d) (sym is)

mutual
  ways_folded : (items others : Items) → IsFolding items others → Folds (ways_by true items) (ways others)
  ways_folded Nothing Nothing is text = ap (λ w. w ∷ []) (idle_folded 0 text)
  ways_folded (Item atom quantifier items) (Item other also others) is text =
      continued_folded (ways_by true items) (ways others) (ways_folded items others is.2) (quantified_ways quantifier (atom_group_count atom) (atom_ways_by true atom) text)
      ∙ ap (continued (ways others))
      (quantified_folded quantifier (atom_group_count atom) (atom_ways_by true atom) (atom_ways other) (atom_ways_folded atom other is.0) text
      ∙ ap₂ (λ q n. quantified_ways q n (atom_ways other) (lower text)) is.1 (atom_groups_folded atom other is.0))
  ways_folded Nothing (Item other also others) is text = absurd is
  ways_folded (Item atom quantifier items) Nothing is text = absurd is

  atom_ways_folded : (atom other : Atom) → IsAtomFolding atom other → Folds (atom_ways_by true atom) (atom_ways other)
  atom_ways_folded (Literal character) (Literal other) is text = one_folded _ _ (character_folded character other is) text
  atom_ways_folded Dot Dot is text = one_folded _ _ (λ c. ap not (sym (line_feed_same true c))) text
  atom_ways_folded (AnyBut character) (AnyBut other) is text = one_folded _ _ (λ c. ap not (character_folded character other is c)) text
  atom_ways_folded (Captured items) (Captured others) is text = all_captured (ways_by true items text) ∙ ap (map capturing) (ways_folded items others is text)
  atom_ways_folded (Grouped items) (Grouped others) is text = ways_folded items others is text
  atom_ways_folded atom other is text = absurd is

first_folded : (all : List Way) → option_map folded_captures (option_map (λ (way : Way). way.captures) (find (λ (way : Way). length way.rest == 0) all))
    ≡ option_map (λ (way : Way). way.captures) (find (λ (way : Way). length way.rest == 0) (all_folded all))
first_folded [] = refl
first_folded (way ∷ all) = by (length way.rest == 0) (first_folded all) ∙ ap (λ n. option_map (λ (w : Way). w.captures) (cond (n == 0) (Some (folded_way way)) (find (λ (w : Way). length w.rest == 0) (all_folded all)))) (sym (length-map way.rest to_ascii_lowercase))
  where
    by : (b : Bool) → option_map folded_captures (option_map (λ (w : Way). w.captures) (find (λ (w : Way). length w.rest == 0) all))
        ≡ option_map (λ (w : Way). w.captures) (find (λ (w : Way). length w.rest == 0) (all_folded all))
        → option_map folded_captures (option_map (λ (w : Way). w.captures) (cond b (Some way) (find (λ (w : Way). length w.rest == 0) all)))
        ≡ option_map (λ (w : Way). w.captures) (cond b (Some (folded_way way)) (find (λ (w : Way). length w.rest == 0) (all_folded all)))
    by true later = refl
    by false later = later

-- The first way where case is ignored, folded, is the first way of a folded tree in the folded
-- text.
pub first_way_folded : (tree other : Items) → IsFolding tree other → (text : List ℕ) → option_map folded_captures (first_way_by true tree text) ≡ first_way other (lower text)
unfolding first_way_by
first_way_folded tree other is text =
    first_folded (ways_by true tree text)
    ∙ ap (λ all. option_map (λ (way : Way). way.captures) (find (λ (way : Way). length way.rest == 0) all)) (ways_folded tree other is text)
