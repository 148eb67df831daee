-- The bytes of a text are below 256.
use Rattle.std.proofs.Common.{◌≡◌, ℕ, zero, suc, ◌+◌, ◌/◌, ◌<◌, List, [], ◌∷◌, get_or, cond, nat_lt, true, arith}
use Rattle.std.proofs.lemmas.Bool.{and_parts, cond_both, ltb-true}
use Rattle.std.specs.Char.{IsScalar}
use Rattle.regex_hir.proofs.Utf8Lemmas.{InScalarRange-of_IsScalar}
use lib.Utf8.{encode, encodes, next, scalars}
use Rattle.urlpattern_meaning.proofs.WayLists.{Every, every-append}

abbrev IsByte : ℕ → Type 0
IsByte b = b < 256

abbrev two_bytes : ℕ → List ℕ
two_bytes c = (192 + c / 64) ∷ next c ∷ []

abbrev three_bytes : ℕ → List ℕ
three_bytes c = (224 + c / 4096) ∷ next (c / 64) ∷ next c ∷ []

abbrev four_bytes : ℕ → List ℕ
four_bytes c = (240 + c / 262144) ∷ next (c / 4096) ∷ next (c / 64) ∷ next c ∷ []

encode_bytes : (c : ℕ) → c < 0x11_0000 → Every IsByte (encode c)
unfolding encode
encode_bytes c high =
    cond_both (nat_lt c 128) (c ∷ []) (cond (nat_lt c 2048) (two_bytes c) (cond (nat_lt c 65536) (three_bytes c) (four_bytes c))) (Every IsByte)
    (λ h. let less : c < 128 = ltb-true c 128 h in (omega arith, tt))
    (λ _. cond_both (nat_lt c 2048) (two_bytes c) (cond (nat_lt c 65536) (three_bytes c) (four_bytes c)) (Every IsByte)
    (λ h. let less : c < 2048 = ltb-true c 2048 h in (omega arith, (omega arith, tt)))
    (λ _. cond_both (nat_lt c 65536) (three_bytes c) (four_bytes c) (Every IsByte)
    (λ h. let less : c < 65536 = ltb-true c 65536 h in (omega arith, (omega arith, (omega arith, tt))))
    (λ _. (omega arith, (omega arith, (omega arith, (omega arith, tt)))))))

encodes_bytes : (text : List ℕ) → scalars text ≡ true → Every IsByte (encodes text)
encodes_bytes [] h = tt
encodes_bytes (c ∷ text) h =
    let both = and_parts _ _ h in
    let scalar : IsScalar c = both.0 in
    every-append IsByte (encode c) (encodes text) (encode_bytes c (omega (arith, InScalarRange-of_IsScalar c scalar))) (encodes_bytes text both.1)

byte_at : (bytes : List ℕ) → Every IsByte bytes → (k : ℕ) → get_or bytes k 0 < 256
byte_at [] every zero = omega arith
byte_at [] every (suc k) = omega arith
byte_at (b ∷ bytes) every zero = every.0
byte_at (b ∷ bytes) every (suc k) = byte_at bytes every.1 k

pub bytes_below : (text : List ℕ) → scalars text ≡ true → (k : ℕ) → get_or (encodes text) k 0 < 256
bytes_below text good = byte_at (encodes text) (encodes_bytes text good)
