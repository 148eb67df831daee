-- Laws of percent-encoded values.
use Rattle.std.specs.Prelude.{◌||◌, ◌==◌, All, ℕ, IsTrue, IsUtf8, List}
use Rattle.std.specs.Str.{chars}
use Rattle.percent_encoding.specs.Percent.{percent_sign}
use Rattle.urlpattern_values.specs.EncodedValues.{DecodesTo, encoded, is_kept}

-- A value, percent-encoded and then decoded, is the value.
abbrev pub EncodedValuesAreDecoded : Type 0
EncodedValuesAreDecoded =
    (bytes : List ℕ) → IsUtf8 bytes → DecodesTo (encoded (chars bytes)) (chars bytes)

-- A percent-encoded value has only kept characters and percent signs.
abbrev pub EncodedValuesHaveNoDelimiters : Type 0
EncodedValuesHaveNoDelimiters =
    (value : List ℕ) → All (λ c. IsTrue (is_kept c || c == percent_sign)) (encoded value)
