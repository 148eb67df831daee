-- UTF-8 consists of bytes.
use Rattle.std.proofs.Common.{◌≡◌, ◌+◌, ◌/◌, ◌<◌, ℕ, All, true, IsUtf8, List, [], ◌∷◌, arith, encode_utf8, encode_utf8_all, ltb, ltb-true, subst, ⊎_elim}
use Rattle.std.proofs.lemmas.Bool.{and_parts, cond_both}
use Rattle.std.proofs.lemmas.List.Elements.{All-append, All-cons, All-nil}
use Rattle.std.specs.Char.{IsScalar}
use Rattle.std.specs.Str.{all_scalars}
use Rattle.percent_encoding.proofs.PercentLemmas.{IsByte}
use lib.Utf8.{next, scalar_cases}

one : (b : ℕ) (bytes : List ℕ) → b < 256 → All IsByte bytes → All IsByte (b ∷ bytes)
one b bytes small rest = All-cons IsByte b bytes small rest

next_byte : (c : ℕ) (bytes : List ℕ) → All IsByte bytes → All IsByte (next c ∷ bytes)
next_byte c bytes rest = one (next c) bytes (omega arith) rest

two : (a b : ℕ) → a < 256 → All IsByte (a ∷ next b ∷ [])
two a b small = one a (next b ∷ []) small (next_byte b [] (All-nil IsByte))

three : (a b c : ℕ) → a < 256 → All IsByte (a ∷ next b ∷ next c ∷ [])
three a b c small = one a (next b ∷ next c ∷ []) small (next_byte b (next c ∷ []) (next_byte c [] (All-nil IsByte)))

four : (a b c d : ℕ) → a < 256 → All IsByte (a ∷ next b ∷ next c ∷ next d ∷ [])
four a b c d small = one a (next b ∷ next c ∷ next d ∷ []) small (next_byte b (next c ∷ next d ∷ []) (next_byte c (next d ∷ []) (next_byte d [] (All-nil IsByte))))

of_char : (c : ℕ) → IsScalar c → All IsByte (encode_utf8 c)
unfolding lib.Utf8.encode
of_char c is =
    let top : c < 1114112 = ⊎_elim (λ low. omega arith) (λ high. high.1) (scalar_cases c is) in
    cond_both (ltb c 128) _ _ (All IsByte) (λ e. let below = ltb-true c 128 e in one c [] (omega arith) (All-nil IsByte))
    (λ _. cond_both (ltb c 2048) _ _ (All IsByte) (λ e. let below = ltb-true c 2048 e in two (192 + c / 64) c (omega arith))
    (λ _. cond_both (ltb c 65536) _ _ (All IsByte) (λ e. let below = ltb-true c 65536 e in three (224 + c / 4096) (c / 64) c (omega arith))
    (λ _. four (240 + c / 262144) (c / 4096) (c / 64) c (omega arith))))

of_chars : (cs : List ℕ) → all_scalars cs ≡ true → All IsByte (encode_utf8_all cs)
of_chars [] are = All-nil IsByte
of_chars (c ∷ cs) are = All-append IsByte (encode_utf8 c) (encode_utf8_all cs) (of_char c (and_parts _ _ are).0) (of_chars cs (and_parts _ _ are).1)

pub of_text : (bytes : List ℕ) → IsUtf8 bytes → All IsByte bytes
of_text bytes utf8 = subst (All IsByte) utf8.1.1 (of_chars utf8.0 utf8.1.0)
