-- Plain paths: of ASCII characters, none of which ends a path or a line.
use Rattle.std.specs.Char.{is_ascii}
use Rattle.std.specs.List.{list_all}
use Rattle.std.specs.Prelude.{ℕ, Bool, ◌&&◌, ◌==◌, not, IsTrue, List, []}
use Rattle.url.specs.Ascii.{number_sign, question_mark}
use Rattle.urlpattern_index.specs.FixedTexts.{AddressTexts}
use Rattle.urlpattern_syntax.specs.Text.{line_feed}

-- Whether the character is ASCII, and none of line feed, `?` and `#`.
abbrev pub is_plain : ℕ → Bool
is_plain c =
    is_ascii c
    && (not (c == line_feed) && (not (c == question_mark) && not (c == number_sign)))

-- Each character of the text is ASCII, and none of line feed, `?` and `#`.
abbrev pub IsPlain : List ℕ → Type 0
IsPlain text = IsTrue (list_all is_plain text)

-- The address of a path alone, whose other texts are empty.
abbrev pub path_alone : (path : List ℕ) → AddressTexts
path_alone path = record { protocol = []; hostname = []; pathname = path }
