-- What parts capture in a path if they can be read in one way only.
use Rattle.std.specs.Prelude.{ℕ, Bool, true, false, ◌&&◌, ◌==◌, List, [], ◌∷◌, ◌++◌, Option, Some, None, option_map, if◌then◌else◌}
use Rattle.std.specs.{Borrow.Bor, Str.chars}
use Rattle.url.specs.Ascii.{slash}
use Rattle.urlpattern_meaning.specs.PartMeaning.{Captures}
use Rattle.urlpattern_syntax.specs.Parts.{PartView}
use Rattle.urlpattern_syntax.specs.RegexpText.{is_empty, is_fixed_text, is_unmodified}
use Rattle.urlpattern_syntax.specs.Text.{begins_with}
use Rattle.urlpattern_syntax.specs.declared.parser.PartType.{PartType}

-- ---- texts

-- The text after `front`, with which it begins. None: it does not begin with `front`.
abbrev pub after_front : (front text : List ℕ) → Option (List ℕ)
after_front [] text = Some text
after_front (c ∷ front) [] = None
after_front (c ∷ front) (other ∷ text) = if other == c then after_front front text else None

-- The text before the first slash, or all of it if there is none.
abbrev pub segment : List ℕ → List ℕ
segment [] = []
segment (c ∷ text) = if c == slash then [] else c ∷ segment text

-- The text from the first slash on, or no text if there is none.
abbrev pub after_segment : List ℕ → List ℕ
after_segment [] = []
after_segment (c ∷ text) = if c == slash then c ∷ text else after_segment text

-- ---- captures

-- What is read of a text: captures, and the rest of the text.
abbrev pub Read : Type 0
Read = Captures × List ℕ

-- Nothing is captured, and `rest` is left.
abbrev pub read_text : (rest : List ℕ) → Read
read_text rest = ([], rest)

-- All of the text is captured.
abbrev pub read_all : (text : List ℕ) → Read
read_all text = (Some text ∷ [], [])

-- The segment is captured, unless it is empty, and `rest` is left.
abbrev pub read_segment : (segment rest : List ℕ) → Option Read
read_segment segment rest = if is_empty segment then None else Some (Some segment ∷ [], rest)

-- The first segment of the text, which is captured, and what follows it.
abbrev pub read_first_segment : Option (List ℕ) → Option Read
read_first_segment (Some text) = read_segment (segment text) (after_segment text)
read_first_segment None = None

-- What a part of this kind reads of a text: a fixed text; a prefix and a segment, which is
-- captured; a prefix and all that follows, which is captured. None: the text does not begin so.
abbrev pub read_part : PartType → PartView → (text : List ℕ) → Option Read
read_part PartType.FixedText part text = option_map read_text (after_front part.value text)
read_part PartType.SegmentWildcard part text = read_first_segment (after_front part.prefix text)
read_part PartType.FullWildcard part text = option_map read_all (after_front part.prefix text)
read_part PartType.Regexp part text = None

-- What was captured first, and what `next` captures of the rest. None: nothing was read, or `next`
-- captures nothing.
abbrev pub captured_after : (next : List ℕ → Option Captures) → Option Read → Option Captures
captured_after next (Some (own, rest)) = option_map (λ others. own ++ others) (next rest)
captured_after next None = None

-- The view of a segment, which is captured, and the rest of the text.
abbrev pub read_view : Bor (List ℕ) × Bor (List ℕ) → Read
read_view (segment, rest) = (Some (chars segment.now) ∷ [], chars rest.now)

-- What the parts capture in a path, where each reads what the one before it left. None: they do not
-- match the path.
abbrev pub captured : List PartView → (path : List ℕ) → Option Captures
captured [] [] = Some []
captured [] (c ∷ path) = None
captured (part ∷ parts) path = captured_after (captured parts) (read_part part.kind part path)

-- ---- parts that can be read in one way only

-- The text with which each text begins that a part without modifier matches.
abbrev pub front_text : PartView → List ℕ
front_text part = if is_fixed_text part.kind then part.value else part.prefix

-- Whether the parts match nothing but the empty text, or nothing that does not begin with a slash.
abbrev pub end_segment : List PartView → Bool
end_segment [] = true
end_segment (part ∷ parts) = begins_with (λ c. c == slash) (front_text part)

-- Whether the list is empty.
abbrev pub is_last : List PartView → Bool
is_last [] = true
is_last (part ∷ parts) = false

-- Whether a part of this kind, which has no modifier, and the parts after it can be read in one way
-- only, if the parts after it can: a fixed text, a segment that ends before a slash, or a wildcard
-- at the end.
abbrev pub is_read_once : PartType → PartView → (after : List PartView) → Bool
is_read_once PartType.FixedText part after = true
is_read_once PartType.SegmentWildcard part after = is_empty part.suffix && end_segment after
is_read_once PartType.FullWildcard part after = is_empty part.suffix && is_last after
is_read_once PartType.Regexp part after = false

-- Whether the parts of a path can be read in one way only.
abbrev pub are_read_once : List PartView → Bool
are_read_once [] = true
are_read_once (part ∷ parts) =
    is_unmodified part.modifier && (is_read_once part.kind part parts && are_read_once parts)
