-- A table of patterns, a text with a pattern a line. Texts are bytes.
use Rattle.std.specs.Prelude.{◌≡◌, ◌+◌, ◌&&◌, ◌==◌, ℕ, Bool, true, List, [], ◌∷◌, ◌++◌, codes, map, slice_get, slice_index, take, All, Some, if◌then◌else◌}
use Rattle.std.specs.List.{before_first, after_first, list_any}
use Rattle.std.specs.Str.{IsUtf8, trim}
use Rattle.bstr.specs.Text.{lines_of, without_terminator}
use Rattle.urlpat_matching.specs.declared.table.Entry.{Entry}
use Rattle.urlpat_matching.specs.declared.table.NoTable.{NoTable}
use Rattle.urlpat_matching.specs.declared.table.NoTable.TheVariants.{NotUtf8, OutOfMemory}

-- An entry of a table: the number of its line, the line, the text of its pattern, and its name.
pub record EntryView : Type 0 where
  pub number : ℕ
  pub line : List ℕ
  pub pattern : List ℕ
  pub name : List ℕ

-- The view of an entry.
abbrev pub entry_view : Entry → EntryView
entry_view entry = record {
  number = entry.number;
  line = entry.line.now;
  pattern = entry.pattern.now;
  name = entry.name.now;
}

-- The views of entries.
abbrev pub entries_view : List Entry → List EntryView
entries_view entries = map entry_view entries

-- Whether three bytes are a byte order mark.
abbrev pub is_mark : (a b c : ℕ) → Bool
is_mark a b c = (a == 0xEF) && (b == 0xBB) && (c == 0xBF)

-- A text without the byte order mark with which it may begin.
abbrev pub without_mark : List ℕ → List ℕ
without_mark (a ∷ b ∷ c ∷ text) = if is_mark a b c then text else a ∷ b ∷ c ∷ text
without_mark text = text

-- The lines of a table, without their ends.
abbrev pub table_lines : (table : List ℕ) → List (List ℕ)
table_lines table = map without_terminator (lines_of (without_mark table))

-- Whether a line has no entry, given without the white space around it: it is empty, or begins with
-- `#`.
abbrev pub is_skipped : (line : List ℕ) → Bool
is_skipped [] = true
is_skipped (first ∷ line) = first == slice_index (codes "#") 0

-- ---- cells

-- Whether a byte is a tab.
abbrev pub is_tab : ℕ → Bool
is_tab c = c == slice_index (codes "\t") 0

-- Whether a byte is a space.
abbrev pub is_space : ℕ → Bool
is_space c = c == slice_index (codes " ") 0

-- Whether a byte separates the cells of a text: a tab does, or a space if the text has no tab.
abbrev pub separates : (text : List ℕ) → ℕ → Bool
separates text = if list_any is_tab text then is_tab else is_space

-- The first cell of a text: what is before the first separator, or the whole text if it has none.
abbrev pub first_cell : (text : List ℕ) → List ℕ
first_cell text = trim (before_first (separates text) text)

-- What a text has after its first cell.
abbrev pub other_cells : (text : List ℕ) → List ℕ
other_cells text = trim (after_first (separates text) text)

-- ---- entries

-- The entry of a line that is not skipped: its pattern is the first cell, and its name the rest.
abbrev pub line_entry : (number : ℕ) → (line : List ℕ) → EntryView
line_entry number line = record {
  number = number;
  line = line;
  pattern = first_cell (trim line);
  name = other_cells (trim line);
}

-- The entry of a line as a list, which is empty if the line is skipped.
abbrev pub line_entries : (number : ℕ) → (line : List ℕ) → List EntryView
line_entries number line = if is_skipped (trim line) then [] else line_entry number line ∷ []

-- The entries of lines, of which the first has the number `number`.
abbrev pub entries_from : (number : ℕ) → (lines : List (List ℕ)) → List EntryView
entries_from number [] = []
entries_from number (line ∷ lines) = line_entries number line ++ entries_from (number + 1) lines

-- The entries of a table.
abbrev pub table_entries : (table : List ℕ) → List EntryView
table_entries table = entries_from 1 (table_lines table)

-- The reason why a table has no entries: the line with this number is the first that is not UTF-8,
-- or memory ran out.
abbrev pub HasNoEntries : (table : List ℕ) → NoTable → Type 0
HasNoEntries table (NotUtf8 number) =
    (index : ℕ) × (line : List ℕ)
    × (number ≡ index + 1)
    × (slice_get (table_lines table) index ≡ Some line)
    × (¬ IsUtf8 line)
    × All IsUtf8 (take index (table_lines table))
HasNoEntries table OutOfMemory = Unit {0}
