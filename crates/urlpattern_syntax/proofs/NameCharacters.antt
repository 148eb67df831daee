-- Lemmas on the first characters of names and numbers.
use Rattle.std.proofs.Common.{rules, ◌≡◌, ℕ, zero, suc, ◌+◌, ◌-◌, ◌<◌, ◌≤◌, ◌/◌, ◌%◌, Bool, true, false, List, [], ◌∷◌, refl, ap, ◌∙◌, subst, arith}
use Rattle.std.specs.Prelude.{◌==◌, ◌||◌, codes, decimal}
use Rattle.std.specs.Char.{is_ascii, is_ascii_alphabetic, is_ascii_alphanumeric, is_ascii_digit}
use Rattle.unicode.specs.Binary.{is_id_continue, is_id_start}
use Rattle.std.specs.Fmt.{digit_glyph, digits, digits_onto}
use Rattle.std.proofs.lemmas.Bool.{agree_below_at, both_ways, cond_both}
use Rattle.urlpattern_syntax.specs.Parsing.{BeginsAsName}
use Rattle.urlpattern_syntax.specs.Text.{begins_with, is_among, is_name_part, is_name_start}
use Rattle.urlpattern_syntax.specs.Tokens.{IsName}
use Rattle.urlpattern_syntax.proofs.TokenExamples.{literals}

unfoldable pub starts_with_digit : List ℕ → Bool
starts_with_digit name = begins_with is_ascii_digit name

digit_starts_none : (k : ℕ) → k < 10 → is_name_start (48 + k) ≡ false
unfolding literals
digit_starts_none zero h = refl
digit_starts_none (suc zero) h = refl
digit_starts_none (suc (suc zero)) h = refl
digit_starts_none (suc (suc (suc zero))) h = refl
digit_starts_none (suc (suc (suc (suc zero)))) h = refl
digit_starts_none (suc (suc (suc (suc (suc zero))))) h = refl
digit_starts_none (suc (suc (suc (suc (suc (suc zero)))))) h = refl
digit_starts_none (suc (suc (suc (suc (suc (suc (suc zero))))))) h = refl
digit_starts_none (suc (suc (suc (suc (suc (suc (suc (suc zero)))))))) h = refl
digit_starts_none (suc (suc (suc (suc (suc (suc (suc (suc (suc zero))))))))) h = refl
digit_starts_none (suc (suc (suc (suc (suc (suc (suc (suc (suc (suc k)))))))))) h = absurd (omega arith)

glyph_is_digit : (n : ℕ) → is_ascii_digit (digit_glyph false (n % 10)) ≡ true
glyph_is_digit n = search rules

-- Digits put before digits begin with a digit.
onto_digit : (k n : ℕ) (ds : List ℕ) → starts_with_digit ds ≡ true → starts_with_digit (digits_onto k 10 false n ds) ≡ true
unfolding starts_with_digit
onto_digit zero n ds h = h
onto_digit (suc k) n ds h =
    cond_both (n / 10 == 0) (digit_glyph false (n % 10) ∷ ds) (digits_onto k 10 false (n / 10) (digit_glyph false (n % 10) ∷ ds)) (λ x. begins_with is_ascii_digit x ≡ true)
    (λ _. glyph_is_digit n) (λ _. onto_digit k (n / 10) (digit_glyph false (n % 10) ∷ ds) (glyph_is_digit n))

pub decimal_starts : (n : ℕ) → starts_with_digit (decimal n) ≡ true
unfolding starts_with_digit digits
decimal_starts n =
    cond_both (n / 10 == 0) (digit_glyph false (n % 10) ∷ []) (digits_onto 63 10 false (n / 10) (digit_glyph false (n % 10) ∷ [])) (λ x. begins_with is_ascii_digit x ≡ true)
    (λ _. glyph_is_digit n) (λ _. onto_digit 63 (n / 10) (digit_glyph false (n % 10) ∷ []) (glyph_is_digit n))

digit_is : (c : ℕ) → is_ascii_digit c ≡ true → (48 ≤ c) × (c ≤ 57)
digit_is c h = search rules

pub name_start_no_digit : (c : ℕ) → is_name_start c ≡ true → is_ascii_digit c ≡ false
name_start_no_digit c h = by_digit (is_ascii_digit c) refl
  where
    by_digit : (b : Bool) → is_ascii_digit c ≡ b → is_ascii_digit c ≡ false
    by_digit false e = e
    by_digit true e =
        let range = digit_is c e in
        let low = range.0 in
        let high = range.1 in
        let same : 48 + (c - 48) ≡ c = omega arith in
        absurd (both_ways (is_name_start c) (subst (λ x. is_name_start x ≡ false) same (digit_starts_none (c - 48) (omega arith))) h)

pub name_starts : (name : List ℕ) → IsName name → starts_with_digit name ≡ false
unfolding starts_with_digit
name_starts [] h = absurd h
name_starts (c ∷ name) h = name_start_no_digit c h.0

-- A decimal number begins with a digit.
pub decimal_digited : (n : ℕ) → begins_with is_ascii_digit (decimal n) ≡ true
unfolding starts_with_digit
decimal_digited n = decimal_starts n

pub name_not_digited : (name : List ℕ) → IsName name → begins_with is_ascii_digit name ≡ false
unfolding starts_with_digit
name_not_digited name h = name_starts name h

-- A name from a pattern is no number.
pub given_no_number : (name : List ℕ) (number : ℕ) → BeginsAsName name → ¬ (decimal number ≡ name)
unfolding starts_with_digit
given_no_number [] number h e = both_ways false refl h
given_no_number (c ∷ name) number h e =
    both_ways (starts_with_digit (c ∷ name)) (name_start_no_digit c h) (subst (λ x. starts_with_digit x ≡ true) e (decimal_starts number))

-- The value of a Name token is a name from a pattern.
pub name_given : (name : List ℕ) → IsName name → BeginsAsName name
name_given [] h = absurd h
name_given (c ∷ name) h = h.0

-- ---- ASCII characters of names

ascii_starts : (c : ℕ) → c < 128 → is_id_start c ≡ is_ascii_alphabetic c
unfolding literals
ascii_starts c h = agree_below_at is_id_start is_ascii_alphabetic 128 c refl h

ascii_parts : (c : ℕ) → c < 128 → is_id_continue c ≡ (is_ascii_alphanumeric c || (c == 95))
unfolding literals
ascii_parts c h = agree_below_at is_id_continue (λ c. is_ascii_alphanumeric c || (c == 95)) 128 c refl h

or_none : (b : Bool) → (b || false) ≡ b
or_none true = refl
or_none false = refl

pub start_ascii : (c : ℕ) → is_ascii c ≡ true → is_name_start c ≡ (is_ascii_alphabetic c || is_among (codes "$_") c)
unfolding is_name_start
start_ascii c h = ap (λ b. b || is_among (codes "$_") c) (ascii_starts c (search rules))

pub start_other : (c : ℕ) → is_ascii c ≡ false → is_name_start c ≡ is_id_start c
unfolding is_name_start
start_other c h =
    let none : is_among (codes "$_") c ≡ false = search rules in
    ap (λ b. is_id_start c || b) none ∙ or_none (is_id_start c)

pub part_ascii : (c : ℕ) → is_ascii c ≡ true → is_name_part c ≡ (is_ascii_alphanumeric c || is_among (codes "$_") c)
unfolding is_name_part
part_ascii c h =
    let none : is_among (0x200C ∷ 0x200D ∷ []) c ≡ false = search rules in
    ap (λ b. (b || is_among (codes "$") c) || is_among (0x200C ∷ 0x200D ∷ []) c) (ascii_parts c (search rules))
    ∙ ap (λ b. ((is_ascii_alphanumeric c || (c == 95)) || is_among (codes "$") c) || b) none ∙ or_none _ ∙ moved (is_ascii_alphanumeric c) (36 == c) (95 == c) (c == 95) (search rules)
  where
    moved : (a dollar mark same : Bool) → same ≡ mark → ((a || same) || (dollar || false)) ≡ (a || (dollar || (mark || false)))
    moved true dollar mark same e = refl
    moved false true true same e = ap (λ b. b || true) e
    moved false true false same e = ap (λ b. b || true) e
    moved false false mark same e = ap (λ b. b || false) e

pub part_other : (c : ℕ) → is_ascii c ≡ false → is_name_part c ≡ (is_id_continue c || is_among (0x200C ∷ 0x200D ∷ []) c)
unfolding is_name_part
part_other c h =
    let none : is_among (codes "$") c ≡ false = search rules in
    ap (λ b. (is_id_continue c || b) || is_among (0x200C ∷ 0x200D ∷ []) c) none ∙ ap (λ b. b || is_among (0x200C ∷ 0x200D ∷ []) c) (or_none (is_id_continue c))
