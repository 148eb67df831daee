-- Worked examples of values that are percent-encoded, and of texts that are decoded.
use Rattle.std.proofs.Common.{◌≡◌, ◌∷◌, [], codes, refl}
use Rattle.urlpattern_values.specs.EncodedValues.{DecodesTo, decoded_bytes, encoded}
use Rattle.percent_encoding.specs.Percent.{percent_decode, percent_encode_byte}

-- ---- encoding

-- A value that would add a parameter to a search.
ampersand : encoded (codes "a&b=c") ≡ codes "a%26b%3Dc"
unfolding percent_encode_byte lib.Utf8.encode
ampersand = refl

-- A value that would add a segment to a path, and end it.
slash : encoded (codes "4/2?x#y") ≡ codes "4%2F2%3Fx%23y"
unfolding percent_encode_byte lib.Utf8.encode
slash = refl

-- The percent sign itself is encoded, so that `%41` stays apart from `A`.
percent : encoded (codes "%41") ≡ codes "%2541"
unfolding percent_encode_byte lib.Utf8.encode
percent = refl

kept : encoded (codes "it's-(0.5)_*!~") ≡ codes "it's-(0.5)_*!~"
unfolding percent_encode_byte lib.Utf8.encode
kept = refl

-- A letter outside of ASCII has two bytes.
umlaut : encoded (0xFC ∷ []) ≡ codes "%C3%BC"
unfolding percent_encode_byte lib.Utf8.encode
umlaut = refl

-- ---- decoding

ampersand_again : DecodesTo (codes "a%26b%3dc") (codes "a&b=c")
unfolding percent_decode lib.Utf8.encode
ampersand_again = refl

-- Each escape is decoded once.
once : DecodesTo (codes "%2541") (codes "%41")
unfolding percent_decode lib.Utf8.encode
once = refl

-- A percent sign without two hexadecimal digits stays.
stays : DecodesTo (codes "100%+4%2") (codes "100%+4%2")
unfolding percent_decode lib.Utf8.encode
stays = refl

-- A byte that is not UTF-8.
no_text : decoded_bytes (codes "%FF") ≡ 0xFF ∷ []
unfolding percent_decode lib.Utf8.encode
no_text = refl
