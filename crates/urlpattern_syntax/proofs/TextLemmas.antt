-- Lemmas on texts: characters and bytes, places, and where a text may be cut.
use Rattle.std.proofs.Common.{◌≡◌, ℕ, ◌-◌, ◌≤◌, List, [], ◌∷◌, ◌++◌, length, take, refl, sym, ap, ◌∙◌, arith, length-append}
use Rattle.std.specs.Prelude.{codes, encode_utf8_all, slice_range}
use Rattle.std.proofs.Math.Seq.{take-append_seam}
use Rattle.std.specs.Char.{encode_utf8}
use Rattle.std.specs.Str.{chars, IsUtf8}
use Rattle.std.proofs.lemmas.List.{append-nil}
use Rattle.std.proofs.lemmas.Str.{chars-nil, length-le-encodes, encodes-append, encodes-chars}
use Rattle.urlpattern_syntax.specs.declared.parser.PartModifier.{PartModifier}
use Rattle.urlpattern_syntax.specs.declared.parser.PartModifier.TheVariants as modifiers
use Rattle.urlpattern_syntax.specs.RegexpText.{modifier_text}
use Rattle.urlpattern_syntax.specs.Text.{byte_len, BeginsAt}
pub use Rattle.urlpattern_syntax.specs.WritingLaws.{byte_len-append, byte_len-nil}

-- The bytes of a text whose characters are `front` and those of a suffix.
pub bytes_before : (text end : List ℕ) (front : List ℕ) → IsUtf8 text → IsUtf8 end → chars text ≡ front ++ chars end → text ≡ encode_utf8_all front ++ end
bytes_before text end front u v e =
    sym (encodes-chars text u) ∙ ap encode_utf8_all e ∙ encodes-append front (chars end) ∙ ap (λ x. encode_utf8_all front ++ x) (encodes-chars end v)

-- The elements before a suffix of a list.
pub slice_before : (xs front end : List ℕ) → xs ≡ front ++ end → slice_range xs 0 (length xs - length end) ≡ front
slice_before xs front end e =
    let n : length xs - length end ≡ length front = omega (arith, ap length e, length-append front end) in
    ap (λ k. slice_range xs 0 k) n ∙ ap (λ ys. slice_range ys 0 (length front)) e
    ∙ ap (λ k. take k (front ++ end)) (let same : length front - 0 ≡ length front = omega arith in same) ∙ take-append_seam front end

-- ---- bytes and characters

pub byte_len-chars : (bytes : List ℕ) → IsUtf8 bytes → byte_len (chars bytes) ≡ length bytes
unfolding byte_len
byte_len-chars bytes u = ap length (encodes-chars bytes u)

-- A character has at least one byte.
pub length-le-byte_len : (text : List ℕ) → length text ≤ byte_len text
unfolding byte_len
length-le-byte_len text = length-le-encodes text

-- The place of a suffix of a text, by the lengths in bytes.
pub BeginsAt-bytes : (whole rest : List ℕ) → IsUtf8 whole → IsUtf8 rest → length rest ≤ length whole → BeginsAt (chars whole) (chars rest) (length whole - length rest)
BeginsAt-bytes whole rest u v le =
    let e = byte_len-chars whole u in
    let f = byte_len-chars rest v in
    omega arith

-- A text without bytes has no character.
pub chars-empty : (bytes : List ℕ) → length bytes ≡ 0 → chars bytes ≡ []
chars-empty [] e = chars-nil
chars-empty (b ∷ bytes) e = absurd (omega arith)

pub chars-some : (bytes : List ℕ) → IsUtf8 bytes → ¬ (length bytes ≡ 0) → ¬ (chars bytes ≡ [])
chars-some bytes u some e =
    let l = byte_len-chars bytes u in
    let f = ap byte_len e ∙ byte_len-nil in
    some (omega arith)

-- The bytes of a text whose characters are known.
pub bytes_from_chars : (bytes text : List ℕ) → IsUtf8 bytes → chars bytes ≡ text → encode_utf8_all text ≡ text → bytes ≡ text
bytes_from_chars bytes text u e f = sym (encodes-chars bytes u) ∙ ap encode_utf8_all e ∙ f

-- A text whose characters and bytes are the same numbers.
abbrev pub IsOfSingleBytes : List ℕ → Type 0
IsOfSingleBytes text = (chars text ≡ text) × (encode_utf8_all text ≡ text)

pub question_mark : IsOfSingleBytes (codes "?")
unfolding chars encode_utf8
question_mark = (refl, refl)

pub full_wildcard : IsOfSingleBytes (codes ".*")
unfolding chars encode_utf8
full_wildcard = (refl, refl)

-- The characters of a modifier's spelling are its bytes.
pub modifier_chars : (modifier : PartModifier) → chars (modifier_text modifier) ≡ modifier_text modifier
unfolding chars
modifier_chars modifiers.None = refl
modifier_chars modifiers.Optional = refl
modifier_chars modifiers.ZeroOrMore = refl
modifier_chars modifiers.OneOrMore = refl

-- Texts with the same characters have the same bytes.
pub bytes_same : (xs ys : List ℕ) → IsUtf8 xs → IsUtf8 ys → chars xs ≡ chars ys → xs ≡ ys
bytes_same xs ys u v e = sym (encodes-chars xs u) ∙ ap encode_utf8_all e ∙ encodes-chars ys v

pub chars_nothing : chars [] ≡ []
chars_nothing = chars-nil

pub byte_len-char : (c : ℕ) → byte_len (c ∷ []) ≡ length (encode_utf8 c)
unfolding byte_len
byte_len-char c = ap length (append-nil (encode_utf8 c))
