-- The ways in which a tree of the dialect matches at the beginning of a text, in the order in which
-- a backtracking engine finds them, and the captures of the first way that matches the whole text.
use Rattle.std.specs.Prelude.{◌≡◌, ℕ, zero, suc, Bool, true, false, not, ◌==◌, nat_lt, length, List, [], ◌∷◌, ◌++◌, map, flat_map, find, replicate, Option, Some, None, option_map, if◌then◌else◌}
use Rattle.urlpattern_meaning.specs.Dialect.{Quantifier, Once, Optional, ZeroOrMore, OneOrMore, LazyOneOrMore, Items, Nothing, Item, Atom, Literal, Dot, AnyBut, Captured, Grouped, Character, Plain, Escaped, character_of, atom_group_count}
use Rattle.urlpattern_meaning.specs.{Matching.folded, Matching.folded_captures, Matching.folded_character, Matching.is_same_character, PartMeaning.Captures}
use Rattle.urlpattern_syntax.specs.Text.{line_feed}

-- A way, that is, one way in which a tree matches a beginning of a text: the beginning that is
-- matched, the captures, and the rest of the text.
pub record Way : Type 0 where
  pub taken : List ℕ
  pub captures : Captures
  pub rest : List ℕ

-- A function from a text to the ways of matching a beginning of the text, the preferred ones first.
abbrev pub WaysByText : Type 0
WaysByText = List ℕ → List Way

-- ---- one way after another

-- The way that matches the empty beginning of a text, where each of `groups` groups captures None.
abbrev pub empty_way : (groups : ℕ) → List ℕ → Way
empty_way groups text = record { taken = []; captures = replicate groups None; rest = text }

-- Two ways as one, where `next` matches a beginning of the rest of `way`.
abbrev pub joined_way : (way next : Way) → Way
joined_way way next = record {
  taken = way.taken ++ next.taken;
  captures = way.captures ++ next.captures;
  rest = next.rest;
}

-- The ways, each joined with every way in which `next` matches a beginning of its rest. All that
-- continue one way are before those that continue a later one.
abbrev pub continued : (next : WaysByText) → List Way → List Way
continued next ways = flat_map (λ way. map (joined_way way) (next way.rest)) ways

-- ---- characters

-- The way of matching a single character that passes the test, or no way if the text does not begin
-- with one.
abbrev pub one_that : (passes : ℕ → Bool) → WaysByText
one_that passes [] = []
one_that passes (c ∷ text) =
    if passes c then record { taken = c ∷ []; captures = []; rest = text } ∷ [] else []

-- ---- loops

-- The ways that go on with a loop and the ways that stop it, in the order in which they are tried:
-- a greedy loop goes on first, and a lazy one stops first.
abbrev pub ordered : (greedy : Bool) → (going_on stopping : List Way) → List Way
ordered greedy going_on stopping = if greedy then going_on ++ stopping else stopping ++ going_on

-- Whether `rest` is shorter than `text`, so that something before it was matched.
abbrev pub is_shorter : (rest text : List ℕ) → Bool
is_shorter rest text = nat_lt (length rest) (length text)

-- The ways of a loop, greedy or lazy, with at most `n` more rounds. In each round the atom matches
-- a text that is not empty.
abbrev pub more_rounds : (greedy : Bool) → WaysByText → (n : ℕ) → WaysByText
more_rounds greedy atom zero text = empty_way 0 text ∷ []
more_rounds greedy atom (suc n) text =
    ordered greedy (continued
    (λ rest. if is_shorter rest text then more_rounds greedy atom n rest else []) (atom text))
    (empty_way 0 text ∷ [])

-- The ways of a loop, greedy or lazy, with at least one round. The first round may match the empty
-- text, which ends the loop. The number of further rounds is at most the number of characters left,
-- since none of them is empty.
abbrev pub looped : (greedy : Bool) → WaysByText → WaysByText
looped greedy atom text =
    continued (λ rest.
    if is_shorter rest text then more_rounds greedy atom (length rest) rest
    else empty_way 0 rest ∷ []) (atom text)

-- ---- trees

-- The ways of an atom with its quantifier, where `groups` is the number of groups in the atom.
abbrev pub quantified_ways : Quantifier → (groups : ℕ) → WaysByText → WaysByText
quantified_ways Once groups atom text = atom text
quantified_ways Optional groups atom text = atom text ++ empty_way groups text ∷ []
quantified_ways ZeroOrMore groups atom text = looped true atom text ++ empty_way groups text ∷ []
quantified_ways OneOrMore groups atom text = looped true atom text
quantified_ways LazyOneOrMore groups atom text = looped false atom text

-- The way, with the text that it matches as a capture before the others.
abbrev pub capturing : Way → Way
capturing way = record way { captures = Some way.taken ∷ way.captures }

abbrev mutual
  -- The ways in which items, one after the other, match a beginning of a text. `same` says whether
  -- a character of the text matches one that is given.
  pub ways_as : (same : (c given : ℕ) → Bool) → Items → WaysByText
  ways_as same Nothing text = empty_way 0 text ∷ []
  ways_as same (Item atom quantifier items) text =
      continued (ways_as same items)
      (quantified_ways quantifier (atom_group_count atom) (atom_ways_as same atom) text)

  -- The ways in which an atom matches a beginning of a text. `same` says whether a character of the
  -- text matches one that is given.
  pub atom_ways_as : (same : (c given : ℕ) → Bool) → Atom → WaysByText
  atom_ways_as same (Literal character) text =
      one_that (λ c. same c (character_of character)) text
  atom_ways_as same Dot text = one_that (λ c. not (c == line_feed)) text
  atom_ways_as same (AnyBut character) text =
      one_that (λ c. not (same c (character_of character))) text
  atom_ways_as same (Captured items) text = map capturing (ways_as same items text)
  atom_ways_as same (Grouped items) text = ways_as same items text

-- The ways in which items match a beginning of a text. Where case is ignored, an ASCII letter is
-- compared as its lower case.
abbrev pub ways_by : (ignore_case : Bool) → Items → WaysByText
ways_by ignore_case = ways_as (is_same_character ignore_case)

-- The ways in which an atom matches a beginning of a text. Where case is ignored, an ASCII letter
-- is compared as its lower case.
abbrev pub atom_ways_by : (ignore_case : Bool) → Atom → WaysByText
atom_ways_by ignore_case = atom_ways_as (is_same_character ignore_case)

-- The ways in which items match a beginning of a text where case counts.
abbrev pub ways : Items → WaysByText
ways items = ways_by false items

-- The ways in which an atom matches a beginning of a text where case counts.
abbrev pub atom_ways : Atom → WaysByText
atom_ways atom = atom_ways_by false atom

-- The captures of the first way in which the tree matches the whole text, or None where no way
-- does.
unfoldable pub first_way_by : (ignore_case : Bool) → Items → List ℕ → Option Captures
first_way_by ignore_case tree text =
    option_map (λ way. way.captures)
    (find (λ way. length way.rest == 0) (ways_by ignore_case tree text))

-- The captures of the first way in which the tree matches the whole text where case counts, or
-- None.
abbrev pub first_way : Items → List ℕ → Option Captures
first_way tree text = first_way_by false tree text

-- ---- where case is ignored

-- The character in lower case if it is an ASCII letter, with a backslash if it has one.
abbrev pub folded_written : Character → Character
folded_written (Plain c) = Plain (folded_character true c)
folded_written (Escaped c) = Escaped (folded_character true c)

abbrev mutual
  -- The items with each ASCII letter in lower case.
  pub folded_items : Items → Items
  folded_items Nothing = Nothing
  folded_items (Item atom quantifier items) =
      Item (folded_atom atom) quantifier (folded_items items)

  -- The atom with each ASCII letter in lower case.
  pub folded_atom : Atom → Atom
  folded_atom (Literal character) = Literal (folded_written character)
  folded_atom Dot = Dot
  folded_atom (AnyBut character) = AnyBut (folded_written character)
  folded_atom (Captured items) = Captured (folded_items items)
  folded_atom (Grouped items) = Grouped (folded_items items)

-- The first way of a tree in a text where case is ignored, with folded captures, is equal to the
-- first way of the folded tree in the folded text where case counts: both are None, or the captures
-- are equal.
abbrev pub FirstWaysFold : Type 0
FirstWaysFold =
    (tree : Items) (text : List ℕ)
    → option_map folded_captures (first_way_by true tree text)
    ≡ first_way (folded_items tree) (folded true text)
