-- Texts as lists of characters, and places in them.
use Rattle.std.specs.Prelude.{◌≡◌, ℕ, zero, suc, ◌+◌, Bool, false, not, ◌||◌, ◌==◌, List, [], ◌∷◌, ◌++◌, length, IsTrue, Option, String, option_map, string_bytes, codes, encode_utf8_all, slice_index}
use Rattle.std.specs.Borrow.{Bor}
pub use Rattle.std.specs.Str.{chars}
use Rattle.std.specs.declared.alloc.Global.{Global}
use Rattle.std.specs.List.{list_all, list_any}
use Rattle.unicode.specs.Binary.{is_id_start, is_id_continue}

-- The characters of a `String`.
abbrev pub text_of : String Global → List ℕ
text_of string = chars (string_bytes string)

-- The characters of an optional text, `None` for no text.
abbrev pub option_text : Option (Bor (List ℕ)) → Option (List ℕ)
option_text text = option_map (λ (present : Bor (List ℕ)). chars present.now) text

-- The length of the characters in UTF-8, in bytes.
unfoldable pub byte_len : List ℕ → ℕ
byte_len text = length (encode_utf8_all text)

-- `rest`, a suffix of `whole`, begins at this byte index of `whole`.
abbrev pub BeginsAt : (whole rest : List ℕ) → ℕ → Type 0
BeginsAt whole rest place = place + byte_len rest ≡ byte_len whole

-- Whether the character is one of `marks`.
abbrev pub is_among : List ℕ → ℕ → Bool
is_among marks c = list_any (λ mark. mark == c) marks

-- Whether the text begins with a character that passes the test.
abbrev pub begins_with : (ℕ → Bool) → List ℕ → Bool
begins_with test [] = false
begins_with test (c ∷ text) = test c

-- The text is not empty, and its first character passes the test.
abbrev pub BeginsWith : (ℕ → Bool) → List ℕ → Type 0
BeginsWith test [] = IsTrue false
BeginsWith test (c ∷ text) = IsTrue (test c)

-- Whether the character does not occur in the text.
abbrev pub lacks : ℕ → List ℕ → Bool
lacks c text = list_all (λ other. not (other == c)) text

-- The character LF.
abbrev pub line_feed : ℕ
line_feed = slice_index (codes "\n") 0

-- The text is a concatenation of n texts, and `Is` holds of each of them.
abbrev pub IsRepeated : (List ℕ → Type 0) → ℕ → List ℕ → Type 0
IsRepeated Is zero text = text ≡ []
IsRepeated Is (suc n) text =
    (first rest : List ℕ) × (text ≡ first ++ rest) × Is first × IsRepeated Is n rest

-- Whether the name of a group may begin with the character: ID_Start, `$` or `_`.
unfoldable pub is_name_start : ℕ → Bool
is_name_start c = is_id_start c || is_among (codes "$_") c

-- Whether the name of a group may have the character after its first one: ID_Continue, `$`, U+200C
-- or U+200D.
unfoldable pub is_name_part : ℕ → Bool
is_name_part c = is_id_continue c || is_among (codes "$") c || is_among (0x200C ∷ 0x200D ∷ []) c
