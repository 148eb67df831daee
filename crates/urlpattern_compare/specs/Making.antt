-- How an automaton is made, from the end of a list of parts to the start.
use Rattle.std.specs.Prelude.{◌≡◌, ◌⊎◌, ℕ, ◌+◌, ◌<◌, All, Bool, true, false, ◌&&◌, ◌||◌, IsSomeAnd, List, [], ◌∷◌, ◌++◌, Option, Some, None, length, map, reverse, if◌then◌else◌}
use Rattle.urlpattern_compare.specs.Cells.{cells_of, has_one}
use Rattle.urlpattern_compare.specs.MeantTexts.{folded_options, folded_part}
use Rattle.urlpattern_compare.specs.declared.parts_automaton.PartsAutomaton.{PartsAutomaton}
use Rattle.urlpattern_compare.specs.declared.parts_automaton.Edge.{Edge}
use Rattle.urlpattern_compare.specs.declared.parts_automaton.Test.{Test}
use Rattle.urlpattern_compare.specs.declared.cells.Cell.{Cell}
use Rattle.urlpattern_compare.specs.declared.cells.Cell.TheVariants.{One, Many}
use Rattle.urlpattern_compare.specs.declared.parts_automaton.TheConstants.{MOST_STATES}
use Rattle.urlpattern_compare.specs.declared.parts_automaton.Test.TheVariants.{Within}
use Rattle.urlpattern_expressions.specs.Shapes.{IsShapeOfPart, Shape, choice, nothing, one_of, sequence, several}
use Rattle.urlpattern_meaning.specs.PartMeaning.{AreGenerated}
use Rattle.urlpattern_syntax.specs.{Options.OptionsView, Parts.PartView}
use Rattle.urlpattern_syntax.specs.declared.parser.{PartModifier.PartModifier, PartType.PartType}

-- An automaton under construction: its edges, its start states, and its number of states.
pub record Made : Type 0 where
  pub edges : List Edge
  pub starts : List ℕ
  pub count : ℕ

-- The view of an automaton.
abbrev pub made_view : PartsAutomaton → Made
made_view automaton = record {
  edges = automaton.edges.items;
  starts = automaton.starts.items;
  count = automaton.states;
}

-- Edges from `from` to each of `others`, by characters that pass the test.
abbrev pub edges_to : (from : ℕ) → Test → (others : List ℕ) → List Edge
edges_to from test others = map (λ to. record { from = from; test = test; to = to }) others

-- The automaton with a cell prepended. One: a new state, which leads to the starts by a character,
-- becomes the only start. Many: a new state, which leads to the starts and to itself, becomes a
-- further start.
abbrev pub with_cell : Made → Cell → Made
with_cell made (One test) = record {
  edges = made.edges ++ edges_to made.count test made.starts;
  starts = made.count ∷ [];
  count = made.count + 1;
}
with_cell made (Many test) = record {
  edges = made.edges ++ edges_to made.count test (made.starts ++ made.count ∷ []);
  starts = made.starts ++ made.count ∷ [];
  count = made.count + 1;
}

-- The automaton with cells prepended, which are in reverse order.
abbrev pub with_cells : Made → List Cell → Made
with_cells made [] = made
with_cells made (cell ∷ cells) = with_cells (with_cell made cell) cells

-- The start states that cells, in reverse order, have once they are prepended to an automaton with
-- `count` states and the start states `starts`.
abbrev pub new_starts : (starts : List ℕ) → (count : ℕ) → List Cell → List ℕ
new_starts starts count [] = starts
new_starts starts count (One test ∷ cells) = new_starts (count ∷ []) (count + 1) cells
new_starts starts count (Many test ∷ cells) = new_starts (starts ++ count ∷ []) (count + 1) cells

-- Whether a part with this modifier may repeat.
abbrev pub repeats : PartModifier → Bool
repeats PartModifier.ZeroOrMore = true
repeats PartModifier.OneOrMore = true
repeats modifier = false

-- Whether a part with this modifier may be left out.
abbrev pub may_miss : PartModifier → Bool
may_miss PartModifier.Optional = true
may_miss PartModifier.ZeroOrMore = true
may_miss modifier = false

-- The automaton `made`, to which the cells of a part are prepended next. If `again` is set, since
-- the part may repeat, and a cell reads exactly one character, the start states that the cells will
-- have are added, so that the cells may be read again.
abbrev pub with_repeat_starts : Made → Bool → List Cell → Made
with_repeat_starts made again cells = record made {
  starts =
      made.starts ++ (if again && has_one cells then new_starts [] made.count cells else []);
}

-- The automaton `inner`, which is `made` with the cells of a part prepended. If the flag is set,
-- since the part may be left out, the start states of `made` are added.
abbrev pub with_missing : (made inner : Made) → Bool → Made
with_missing made inner missing = record inner {
  starts =
      inner.starts ++ (if missing then made.starts else []);
}

-- ---- shapes

-- Edges from `from` to each of `others`, by characters of the ranges.
abbrev pub edges_within : (from : ℕ) → (ranges : List (ℕ × ℕ)) → (others : List ℕ) → List Edge
edges_within from [] others = []
edges_within from (range ∷ ranges) others =
    edges_to from (Within range.0 range.1) others ++ edges_within from ranges others

-- The number of states of the shape: one for each of its characters.
abbrev pub shape_size : Shape → ℕ
shape_size nothing = 0
shape_size (one_of ranges) = 1
shape_size (sequence one other) = shape_size one + shape_size other
shape_size (choice one other) = shape_size one + shape_size other
shape_size (several one) = shape_size one

-- Whether the empty text is of the shape.
abbrev pub takes_empty : Shape → Bool
takes_empty nothing = true
takes_empty (one_of ranges) = false
takes_empty (sequence one other) = takes_empty one && takes_empty other
takes_empty (choice one other) = takes_empty one || takes_empty other
takes_empty (several one) = takes_empty one

-- The states at which the other texts of the shape begin, if its first state is `count`.
abbrev pub heads : Shape → (count : ℕ) → List ℕ
heads nothing count = []
heads (one_of ranges) count = count ∷ []
heads (sequence one other) count =
    heads one (count + shape_size other) ++ (if takes_empty one then heads other count else [])
heads (choice one other) count = heads one count ++ heads other (count + shape_size one)
heads (several one) count = heads one count

-- The states at which texts of the shape begin that are followed by a text from one of `starts`.
abbrev pub begins : Shape → (count : ℕ) → (starts : List ℕ) → List ℕ
begins shape count starts = heads shape count ++ (if takes_empty shape then starts else [])

-- The edges of the shape, of which the first state is `count`, and which is followed by a text from
-- one of `starts`.
abbrev pub shape_edges : Shape → (count : ℕ) → (starts : List ℕ) → List Edge
shape_edges nothing count starts = []
shape_edges (one_of ranges) count starts = edges_within count ranges starts
shape_edges (sequence one other) count starts =
    shape_edges other count starts
    ++ shape_edges one (count + shape_size other) (begins other count starts)
shape_edges (choice one other) count starts =
    shape_edges one count starts ++ shape_edges other (count + shape_size one) starts
shape_edges (several one) count starts = shape_edges one count (starts ++ heads one count)

-- The automaton with a shape prepended.
abbrev pub with_shape : Made → Shape → Made
with_shape made shape = record {
  edges = made.edges ++ shape_edges shape made.count made.starts;
  starts = begins shape made.count made.starts;
  count = made.count + shape_size shape;
}

-- ---- copies

-- The automaton with cells prepended, in reverse order, which are read as many times as the
-- modifier permits. Cells of which none reads exactly one character may read nothing anyway.
abbrev pub with_copies : Made → PartModifier → List Cell → Made
with_copies made modifier cells =
    with_missing made (with_cells (with_repeat_starts made (repeats modifier) cells) cells)
    (may_miss modifier && has_one cells)

-- ---- parts

-- A part and, if it is custom, a shape of its texts.
abbrev pub ShapedPart : Type 0
ShapedPart = PartView × Option Shape

-- The automaton with a part prepended: by the shape of its texts, or by its cells.
abbrev pub with_part : OptionsView → Made → PartView → Option Shape → Made
with_part options made part (Some shape) = with_shape made shape
with_part options made part None =
    with_copies made part.modifier (reverse (cells_of options part.kind part))

-- The automaton of parts, made from the last part to the first.
abbrev pub made : OptionsView → List ShapedPart → Made
made options [] = record { edges = []; starts = 0 ∷ []; count = 1 }
made options (part ∷ parts) = with_part options (made options parts) part.0 part.1

-- The parts of which none is custom.
abbrev pub unshaped : List PartView → List ShapedPart
unshaped parts = map (λ part. (part, None)) parts

-- A part of this kind has a shape of its texts if it is custom, and none otherwise.
abbrev pub IsShaped : PartType → PartView → Option Shape → Type 0
IsShaped PartType.Regexp part shape = IsSomeAnd shape (IsShapeOfPart part)
IsShaped kind part shape = shape ≡ None

-- The parts, with the texts of those in lower case that are not custom, if case is ignored.
abbrev pub folded_shaped : OptionsView → List ShapedPart → List ShapedPart
folded_shaped options parts =
    map (λ part. (folded_part options.ignore_case part.0, part.1)) parts

-- The automaton is that of the parts. If case is ignored, it is made of their texts in lower case,
-- and reads texts in lower case.
pub record IsMadeOf (options : OptionsView) (parts : List PartView) (automaton : PartsAutomaton) :
    Type 0 where
  pub shaped : List ShapedPart
  pub parts_are : map (λ part. part.0) shaped ≡ parts
  pub are_shaped : All (λ part. IsShaped part.0.kind part.0 part.1) shaped
  pub view : made_view automaton ≡ made (folded_options options) (folded_shaped options shaped)
  pub case : automaton.ignore_case ≡ options.ignore_case

-- The automaton `new` is `old` with the part prepended, in lower case if case is ignored: by its
-- shape if it is custom, and by its cells otherwise.
abbrev pub IsPartAdded : OptionsView → PartView → (old new : Made) → Type 0
IsPartAdded options part old new =
    (shape : Option Shape) × IsShaped part.kind part shape
    × (new ≡ with_part (folded_options options) old (folded_part options.ignore_case part) shape)

-- A part that is not custom has more than `MOST_STATES` cells, or the automaton to which it is
-- prepended has more than so many states.
abbrev pub IsPartLarge : OptionsView → PartView → Made → Type 0
IsPartLarge options part made =
    (MOST_STATES < length (cells_of options part.kind part)) ⊎ (MOST_STATES < made.count)

-- The automaton of the parts may need too many states: a part is custom, since nothing says how
-- large the tree of its expression is, or there are, without one, more than `MOST_STATES` cells.
abbrev pub MayHaveManyStates : OptionsView → List PartView → Type 0
MayHaveManyStates options parts =
    (¬ AreGenerated parts) ⊎ (MOST_STATES < (made options (unshaped parts)).count)
