-- Lemmas on the characters of a `String`.
use Rattle.std.proofs.lemmas.Bool.{false≢true}
use Rattle.std.proofs.Common.{◌≡◌, ℕ, true, false, List, [], ◌∷◌, ◌++◌, length, ◌==◌, String, refl, sym, ap, ◌∙◌, arith}
use Rattle.std.proofs.lemmas.List.{append-nil}
use Rattle.std.proofs.lemmas.Str.{chars-append, chars-nil, chars_past_char, encodes-chars, IsUtf8-encode, IsUtf8-string_bytes}
use Rattle.std.specs.Char.{IsScalar, encode_utf8}
use Rattle.std.specs.Prelude.{encode_utf8_all, string_bytes, string_len}
use Rattle.std.specs.Str.{chars, IsUtf8}
use Rattle.std.specs.declared.alloc.Global.{Global}
use Rattle.urlpattern_syntax.specs.RegexpText.{is_empty}
use Rattle.urlpattern_syntax.specs.Text.{text_of}

-- The characters of the bytes of a character.
pub chars-encode : (c : ℕ) → IsScalar c → chars (encode_utf8 c) ≡ c ∷ []
chars-encode c s = chars_past_char (encode_utf8 c) [] c (IsUtf8-encode c s) (sym (append-nil _)) ∙ ap (λ cs. c ∷ cs) chars-nil

-- The characters of a `String` after bytes were appended.
pub text-append : {now : List ℕ} (was : String Global) (bytes : List ℕ) → now ≡ string_bytes was ++ bytes → chars now ≡ text_of was ++ chars bytes
text-append was bytes now = ap chars now ∙ chars-append (string_bytes was) bytes (IsUtf8-string_bytes was)

-- The characters of a `String` after a character was appended.
pub text-push : {now : List ℕ} (was : String Global) (c : ℕ) → IsScalar c → now ≡ string_bytes was ++ encode_utf8 c → chars now ≡ text_of was ++ c ∷ []
text-push was c s now = text-append was (encode_utf8 c) now ∙ ap (λ x. text_of was ++ x) (chars-encode c s)

-- A text that is appended to an empty `String` is its text.
pub text-append_empty : {now : List ℕ} (was : String Global) (text : List ℕ) → string_bytes was ≡ [] → now ≡ text_of was ++ text → now ≡ text
text-append_empty was text empty now = now ∙ ap (λ bytes. chars bytes ++ text) empty ∙ ap (λ x. x ++ text) chars-nil

-- A text with a byte has a character.
is_empty-encodes : (cs : List ℕ) (b : ℕ) (bytes : List ℕ) → encode_utf8_all cs ≡ b ∷ bytes → is_empty cs ≡ false
is_empty-encodes [] b bytes e = absurd cc
is_empty-encodes (c ∷ cs) b bytes e = refl

is_empty-chars : (bytes : List ℕ) → IsUtf8 bytes → is_empty (chars bytes) ≡ (length bytes == 0)
is_empty-chars [] u = ap is_empty chars-nil
is_empty-chars (b ∷ bytes) u = is_empty-encodes (chars (b ∷ bytes)) b bytes (encodes-chars (b ∷ bytes) u) ∙ grind arith

-- Whether a text in UTF-8 is empty, by the number of its bytes.
pub is_empty-str : (bytes : List ℕ) → IsUtf8 bytes → is_empty (chars bytes) ≡ (length bytes == 0)
is_empty-str bytes u = is_empty-chars bytes u

pub is_empty-text : (string : String Global) → is_empty (text_of string) ≡ (string_len string == 0)
is_empty-text string = is_empty-chars (string_bytes string) (IsUtf8-string_bytes string) ∙ ap (λ n. n == 0) (sym string.bytes.ok.0)

-- An empty `String` has no character.
pub text-nil : (string : String Global) → string_bytes string ≡ [] → text_of string ≡ []
text-nil string empty = ap chars empty ∙ chars-nil

pub nothing_from_is_empty : (text : List ℕ) → is_empty text ≡ true → text ≡ []
nothing_from_is_empty [] e = refl
nothing_from_is_empty (c ∷ text) e = absurd (false≢true e)

-- The characters of a `String`, encoded, are its bytes.
pub text_bytes : (string : String Global) → encode_utf8_all (text_of string) ≡ string_bytes string
text_bytes string = encodes-chars (string_bytes string) (IsUtf8-string_bytes string)
