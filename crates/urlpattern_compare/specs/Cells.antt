-- Cells: what parts are cut into for an automaton. A cell reads one character of a text that passes
-- a test, or any number of them.
use Rattle.std.specs.Prelude.{ℕ, Bool, true, false, List, [], ◌∷◌, ◌++◌, map, unwrap_or}
use Rattle.std.specs.List.{list_any}
use Rattle.urlpattern_compare.specs.declared.parts_automaton.Test.TheVariants.{Only, AnyBut}
use Rattle.urlpattern_compare.specs.declared.cells.Cell.{Cell}
use Rattle.urlpattern_compare.specs.declared.cells.Cell.TheVariants.{One, Many}
use Rattle.urlpattern_syntax.specs.{Options.OptionsView, Parts.PartView, Text.line_feed}
use Rattle.urlpattern_syntax.specs.declared.parser.PartType.{PartType}

-- ---- the cells of parts

-- The cells that read a text: one for each character.
abbrev pub text_cells : List ℕ → List Cell
text_cells text = map (λ c. One (Only c)) text

-- The cells that read a wildcard of this kind, or no cells for another kind. A segment wildcard
-- reads at least one character, and a full wildcard any number.
abbrev pub wildcard_cells : OptionsView → PartType → List Cell
wildcard_cells options PartType.SegmentWildcard =
    let test = AnyBut (unwrap_or options.delimiter line_feed) in One test ∷ Many test ∷ []
wildcard_cells options PartType.FullWildcard = Many (AnyBut line_feed) ∷ []
wildcard_cells options kind = []

-- The cells that read one copy of a part of this kind, without its modifier.
abbrev pub cells_of : OptionsView → PartType → PartView → List Cell
cells_of options PartType.FixedText part = text_cells part.value
cells_of options kind part =
    text_cells part.prefix ++ wildcard_cells options kind ++ text_cells part.suffix

-- Whether the cell reads exactly one character, and not any number.
abbrev pub is_one : Cell → Bool
is_one (One test) = true
is_one (Many test) = false

-- Whether at least one of the cells reads exactly one character.
abbrev pub has_one : List Cell → Bool
has_one cells = list_any is_one cells
