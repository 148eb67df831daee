-- Values percent-encoded by the set, and texts percent-decoded.
use Rattle.std.proofs.Common.{◌≡◌, ◌≢◌, ◌<◌, ◌∙◌, ◌||◌, ◌==◌, ℕ, All, Bool, true, false, not, IsTrue, IsUtf8, List, [], ◌∷◌, ◌++◌, Result, Ok, Err, IfOk, IsOkUnless, OnOk, ap, ap₂, arith, encode_utf8_all, flat_map, if◌then◌else◌, refl, subst, sym}
use Rattle.std.proofs.lemmas.Bool.{false≢true}
use Rattle.std.proofs.lemmas.Bool.Decides.{nat_tests}
use Rattle.std.proofs.lemmas.Str.{chars-IsAscii, encodes-IsAscii, encodes-chars}
use Rattle.std.specs.Cow.{cow_str_bytes}
use Rattle.std.specs.Str.{chars}
use Rattle.std.specs.declared.alloc.Global.{Global}
use Rattle.std.specs.declared.borrow.CowStr.{CowStr}
use Rattle.percent_encoding.proofs.PercentLemmas.{All-percent_encode, IsAscii-percent_encode, IsByte, round_trip}
use Rattle.percent_encoding.specs.AsciiSet.{should_percent_encode}
use Rattle.percent_encoding.specs.Percent.{encode_byte, percent_decode, percent_encode, percent_encode_byte, percent_sign}
use Rattle.percent_encoding.specs.declared.DecodeError.{DecodeError}
use Rattle.percent_encoding.specs.declared.DecodeError.TheVariants.{OutOfMemory, Utf8}
use Rattle.url.proofs.InputLemmas.{Passes}
use Rattle.urlpattern_values.proofs.ByteLemmas.{of_text}
use Rattle.urlpattern_values.proofs.SetTests.{tested_by_set}
use Rattle.urlpattern_values.specs.EncodedValues.{IsDecoded, encoded, encoded_byte, is_kept}
use Rattle.urlpattern_values.specs.LawsOfValues.{EncodedValuesAreDecoded, EncodedValuesHaveNoDelimiters}
use Rattle.urlpattern_values.specs.declared.encoding.TheConstants.{COMPONENT}

-- ---- the set

kept_ascii : (b : ℕ) → Passes is_kept b → b < 128
kept_ascii b passes = grind (arith, nat_tests)

kept_by_set : (b : ℕ) → not (should_percent_encode COMPONENT b) ≡ is_kept b
kept_by_set b = tested_by_set COMPONENT is_kept refl refl kept_ascii b

same_byte : (b : ℕ) → encode_byte COMPONENT b ≡ encoded_byte b
same_byte b = by (should_percent_encode COMPONENT b) (is_kept b) (kept_by_set b)
  where
    by : (escaped kept : Bool) → not escaped ≡ kept → (if escaped then percent_encode_byte b else (b ∷ [])) ≡ (if kept then b ∷ [] else percent_encode_byte b)
    by true false e = refl
    by false true e = refl
    by true true e = absurd (false≢true e)
    by false false e = absurd (false≢true (sym e))

by_set : (bytes : List ℕ) → percent_encode COMPONENT bytes ≡ flat_map encoded_byte bytes
unfolding percent_encode
by_set [] = refl
by_set (b ∷ bytes) = ap₂ (λ (one rest : List ℕ). one ++ rest) (same_byte b) (by_set bytes)

-- ---- encoding

pub encoded_by_set : (bytes : List ℕ) → IsUtf8 bytes → chars (percent_encode COMPONENT bytes) ≡ encoded (chars bytes)
encoded_by_set bytes utf8 =
    chars-IsAscii _ (IsAscii-percent_encode COMPONENT bytes) ∙ by_set bytes ∙ ap (flat_map encoded_byte) (sym (encodes-chars bytes utf8))

pub has_no_delimiters : EncodedValuesHaveNoDelimiters
has_no_delimiters value =
    subst (All (λ c. IsTrue (is_kept c || c == percent_sign))) (by_set (encode_utf8_all value))
    (All-percent_encode (λ c. IsTrue (is_kept c || c == percent_sign)) COMPONENT (encode_utf8_all value)
    (λ b kept. let same : is_kept b ≡ true = sym (kept_by_set b) ∙ ap not kept in rw same refl)
    (λ b escape. grind (arith, nat_tests)))

-- ---- decoding

pub is_decoded_back : EncodedValuesAreDecoded
is_decoded_back bytes utf8 =
    let same = encodes-chars bytes utf8 in
    let value = encode_utf8_all (chars bytes) in
    ap percent_decode (ap encode_utf8_all (sym (by_set value)) ∙ encodes-IsAscii _ (IsAscii-percent_encode COMPONENT value))
    ∙ round_trip COMPONENT value refl (subst (All IsByte) (sym same) (of_text bytes utf8))

pub is_decoded : (text : List ℕ) (result : Result (CowStr Global) DecodeError) → IsUtf8 text →
    IfOk result (λ value. cow_str_bytes value ≡ percent_decode text) → OnOk result (IsUtf8 (percent_decode text)) →
    (IsUtf8 (percent_decode text) → IsOkUnless result OutOfMemory) → (All (λ b. b ≢ percent_sign) text → result ≢ Err OutOfMemory) → IsDecoded (chars text) result
is_decoded text (Ok value) utf8 same are memory none =
    (subst IsUtf8 (sym same) are, ap percent_decode (encodes-chars text utf8) ∙ sym same)
is_decoded text (Err (Utf8 fault)) utf8 same are memory none = λ is. other (memory (subst IsUtf8 (ap percent_decode (encodes-chars text utf8)) is))
  where
    other : Utf8 fault ≢ OutOfMemory
    other e = cc e
is_decoded text (Err OutOfMemory) utf8 same are memory none = λ lacks. none (subst (All (λ b. b ≢ percent_sign)) (encodes-chars text utf8) lacks) refl
