-- Texts that are written piece by piece, into memory that was reserved at once.
use Rattle.std.specs.Prelude.{◌≡◌, ◌+◌, ◌<◌, ◌≤◌, ◌++◌, ℕ, List, Option, Some, None, String, string_capacity, string_len}
use Rattle.std.below.core.specs.declared.int.usize.TheConstants.{MAX}
use Rattle.std.specs.declared.alloc.Global.{Global}
use Rattle.urlpattern_syntax.specs.PatternText.{pattern_marks}
use Rattle.urlpattern_syntax.specs.RegexpText.{escaped, escaped_marks}
use Rattle.urlpattern_syntax.specs.Text.{byte_len, chars, option_text, text_of}
use Rattle.urlpattern_syntax.specs.declared.writing.Comparison.{Comparison}
use Rattle.urlpattern_syntax.specs.declared.escape.{Escaped.Escaped, Marks.Marks}

-- The counter went from `before` to `after`, by the bytes of the piece, unless `after` is `MAX`,
-- where it saturates.
pub record Counts (before : ℕ) (piece : List ℕ) (after : ℕ) : Type 0 where
  pub count : after < MAX → after ≡ before + byte_len piece

-- The `String` has capacity for the piece after its text.
pub record HasRoom (string : String Global) (piece : List ℕ) : Type 0 where
  pub room : string_len string + byte_len piece ≤ string_capacity string

-- The piece was appended to the `String`, whose capacity did not shrink.
pub record Appends (before : String Global) (piece : List ℕ) (after : String Global) : Type 0 where
  pub text : text_of after ≡ text_of before ++ piece
  pub capacity : string_capacity before ≤ string_capacity after

-- What a comparison has left of its text, or `None` after a difference.
abbrev pub left_view : Comparison → Option (List ℕ)
left_view comparison = option_text comparison.left

-- After the piece is written, a comparison with this text left has the text after the piece left,
-- or `None` if the text does not begin with the piece. `None` stays `None`.
abbrev pub Compares : Option (List ℕ) → (piece : List ℕ) → Option (List ℕ) → Type 0
Compares None piece after = after ≡ None
Compares (Some text) piece (Some rest) = text ≡ piece ++ rest
Compares (Some text) piece None = (rest : List ℕ) → ¬ (text ≡ piece ++ rest)

-- The characters before which these marks put a backslash.
abbrev pub marks_of : Marks → List ℕ
marks_of (Marks.Regexp syntax) = escaped_marks syntax
marks_of Marks.Pattern = pattern_marks

-- The text that an `Escaped` writes, with the backslashes.
unfoldable pub escaped_text : Escaped → List ℕ
escaped_text text = escaped (marks_of text.marks) (chars text.text.now)
