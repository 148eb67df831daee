-- Values percent-encoded as parts of a URL, and texts percent-decoded. Texts are characters.
use Rattle.std.specs.Prelude.{◌≡◌, ◌≢◌, ◌==◌, ◌||◌, All, ℕ, Bool, IsUtf8, List, [], ◌∷◌, Result, Ok, Err, codes, encode_utf8_all, flat_map, if◌then◌else◌}
use Rattle.std.specs.Char.{is_ascii_alphanumeric}
use Rattle.std.specs.Cow.{cow_str_bytes}
use Rattle.std.specs.List.{list_any}
use Rattle.std.specs.declared.alloc.Global.{Global}
use Rattle.std.specs.declared.borrow.CowStr.{CowStr}
use Rattle.percent_encoding.specs.Percent.{percent_decode, percent_encode_byte, percent_sign}
use Rattle.percent_encoding.specs.declared.DecodeError.{DecodeError}
use Rattle.percent_encoding.specs.declared.DecodeError.TheVariants.{OutOfMemory, Utf8}

-- Whether a byte of a value is kept, an ASCII letter, a digit or one of these marks: those that are
-- not in the component percent-encode set of the URL Standard.
abbrev pub is_kept : ℕ → Bool
is_kept b = is_ascii_alphanumeric b || list_any (λ mark. mark == b) (codes "-_.!~*'()")

-- What a byte of a value is written as: `%` and two hexadecimal digits, unless it is kept.
abbrev pub encoded_byte : ℕ → List ℕ
encoded_byte b = if is_kept b then b ∷ [] else percent_encode_byte b

-- The value, percent-encoded byte by byte.
abbrev pub encoded : (value : List ℕ) → List ℕ
encoded value = flat_map encoded_byte (encode_utf8_all value)

-- The bytes that the text stands for, percent-decoded. They may not be UTF-8.
abbrev pub decoded_bytes : (text : List ℕ) → List ℕ
decoded_bytes text = percent_decode (encode_utf8_all text)

-- The text, percent-decoded, is `value`.
abbrev pub DecodesTo : (text value : List ℕ) → Type 0
DecodesTo text value = decoded_bytes text ≡ encode_utf8_all value

-- The text has a percent sign.
abbrev pub HasPercent : (text : List ℕ) → Type 0
HasPercent text = ¬ All (λ b. b ≢ percent_sign) (encode_utf8_all text)

-- `result` is the text, percent-decoded. The errors: the bytes are not UTF-8, or memory ran out,
-- which a text without a percent sign does not need.
abbrev pub IsDecoded : (text : List ℕ) → Result (CowStr Global) DecodeError → Type 0
IsDecoded text (Ok value) =
    IsUtf8 (cow_str_bytes value) × (decoded_bytes text ≡ cow_str_bytes value)
IsDecoded text (Err (Utf8 fault)) = ¬ IsUtf8 (decoded_bytes text)
IsDecoded text (Err OutOfMemory) = HasPercent text
