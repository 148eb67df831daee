-- Lemmas on ASCII characters in a text: at its ends, and as all of it.
use Rattle.std.proofs.Common.{◌≡◌, ℕ, Bool, true, false, ◌==◌, ◌<◌, ◌≤◌, ◌-◌, ◌+◌, List, [], ◌∷◌, ◌++◌, length, length-append, get_or, take, drop, map, refl, sym, ap, ◌∙◌, arith}
use Rattle.std.proofs.Math.Seq.{get_or-append_seam}
use Rattle.std.proofs.lemmas.Bool.{and_parts, false≢true, ltb-true}
use Rattle.std.proofs.lemmas.Bool.Decides.{nat_tests}
use Rattle.std.proofs.lemmas.Grind.{common_steps}
use Rattle.std.proofs.lemmas.Slice.Eq.{bytes_eq-Decides}
use Rattle.std.proofs.lemmas.Str.{chars-append, chars-IsAscii, chars_past_char, encode_ascii, encodes-append, encodes-chars, encodes-IsAscii, IsCharBoundary-before_ascii, IsUtf8-take}
use Rattle.std.proofs.lemmas.Str.Ascii.{IsAscii-cons, IsAscii-map, IsAscii-nil, lowercase_ascii}
use Rattle.std.specs.Bool.{Decides}
use Rattle.std.specs.Char.{encode_utf8, to_ascii_lowercase}
use Rattle.std.specs.List.{list_all}
use Rattle.std.specs.Prelude.{bytes_eq, encode_utf8_all, ltb, slice_range, if◌then◌else◌}
use Rattle.std.specs.Str.{chars, IsAscii, IsUtf8}
use Rattle.urlpattern_canonical.specs.Canonical.{is_ipv6_character, without_first, without_last}
use Rattle.urlpattern_syntax.specs.Text.{begins_with}

-- The first elements of a list, as a slice.
pub slice_range-front : (xs : List ℕ) (n : ℕ) → slice_range xs 0 n ≡ take n xs
slice_range-front xs n = ap (λ k. take k xs) (let same : n - 0 ≡ n = omega arith in same)

-- A text is ASCII if it passes the test.
pub ascii_text : (text : List ℕ) → list_all (λ c. ltb c 128) text ≡ true → IsAscii text
ascii_text [] e = IsAscii-nil
ascii_text (c ∷ text) e =
    let parts = and_parts (ltb c 128) (list_all (λ b. ltb b 128) text) e in
    IsAscii-cons c text (ltb-true c 128 parts.0) (ascii_text text parts.1)

-- ---- a final mark

without_last-append : (mark : ℕ) (front : List ℕ) → without_last mark (front ++ mark ∷ []) ≡ front
without_last-append mark [] = grind arith
without_last-append mark (c ∷ []) = ap (λ rest. c ∷ rest) (without_last-append mark [])
without_last-append mark (c ∷ next ∷ front) = ap (λ rest. c ∷ rest) (without_last-append mark (next ∷ front))

without_last-other : (mark : ℕ) (text : List ℕ) → ((front : List ℕ) → ¬ (text ≡ front ++ mark ∷ [])) → without_last mark text ≡ text
without_last-other mark [] other = refl
without_last-other mark (c ∷ []) other =
    elim (c == mark) as (λ same. c == mark ≡ same → (if same then [] else c ∷ []) ≡ c ∷ []) [
      | true ↦ λ e. absurd (other [] (ap (λ x. x ∷ []) (let same : c ≡ mark = grind arith in same)))
      | false ↦ λ e. refl
    ] refl
without_last-other mark (c ∷ next ∷ text) other =
    ap (λ rest. c ∷ rest) (without_last-other mark (next ∷ text) (λ front e. other (c ∷ front) (ap (λ rest. c ∷ rest) e)))

-- The bytes before the last one.
split_last : (bytes : List ℕ) → 1 ≤ length bytes → bytes ≡ take (length bytes - 1) bytes ++ get_or bytes (length bytes - 1) 0 ∷ []
split_last bytes some = grind (arith, common_steps)

pub without_last-mark : (mark : ℕ) (bytes : List ℕ) → mark < 128 → IsUtf8 bytes → 1 ≤ length bytes → get_or bytes (length bytes - 1) 0 ≡ mark
    → chars (take (length bytes - 1) bytes) ≡ without_last mark (chars bytes)
without_last-mark mark bytes ascii u some last =
    let front = take (length bytes - 1) bytes in
    let place = length bytes - 1 in
    let utf8 : IsUtf8 front = IsUtf8-take bytes place u (IsCharBoundary-before_ascii bytes place (omega arith) (omega arith)) in
    let cut : bytes ≡ front ++ mark ∷ [] = split_last bytes some ∙ ap (λ x. front ++ x ∷ []) last in
    let spelled : chars bytes ≡ chars front ++ mark ∷ []
    = ap chars cut ∙ chars-append front (mark ∷ []) utf8
    ∙ ap (λ x. chars front ++ x) (chars-IsAscii (mark ∷ []) (IsAscii-cons mark [] ascii IsAscii-nil))
    in
    sym (ap (without_last mark) spelled ∙ without_last-append mark (chars front))

pub without_last-none : (mark : ℕ) (bytes : List ℕ) → mark < 128 → IsUtf8 bytes
    → (1 ≤ length bytes → ¬ (get_or bytes (length bytes - 1) 0 ≡ mark)) → chars bytes ≡ without_last mark (chars bytes)
without_last-none mark bytes ascii u other =
    sym
    (without_last-other mark (chars bytes) (λ front e.
    let cut : bytes ≡ encode_utf8_all front ++ mark ∷ []
    = sym (encodes-chars bytes u) ∙ ap encode_utf8_all e ∙ encodes-append front (mark ∷ [])
    ∙ ap (λ x. encode_utf8_all front ++ x) (encodes-IsAscii (mark ∷ []) (IsAscii-cons mark [] ascii IsAscii-nil))
    in
    let size : length bytes ≡ length (encode_utf8_all front) + 1 = ap length cut ∙ length-append (encode_utf8_all front) (mark ∷ []) in
    let place : length bytes - 1 ≡ length (encode_utf8_all front) = omega arith in
    let last : get_or bytes (length bytes - 1) 0 ≡ mark
    = ap (λ n. get_or bytes n 0) place ∙ ap (λ xs. get_or xs (length (encode_utf8_all front)) 0) cut
    ∙ get_or-append_seam (encode_utf8_all front) mark [] 0
    in
    other (omega arith) last))

-- ---- an initial mark

split_first : (bytes : List ℕ) → 1 ≤ length bytes → bytes ≡ get_or bytes 0 0 ∷ drop 1 bytes
split_first [] some = absurd (omega arith)
split_first (b ∷ bytes) some = grind (arith, common_steps)

same_mark : (mark : ℕ) (text : List ℕ) → without_first mark (mark ∷ text) ≡ text
same_mark mark text = grind arith

pub without_first-mark : (mark : ℕ) (bytes : List ℕ) → mark < 128 → IsUtf8 bytes → 1 ≤ length bytes → get_or bytes 0 0 ≡ mark
    → chars (drop 1 bytes) ≡ without_first mark (chars bytes)
without_first-mark mark bytes ascii u some first =
    let cut : bytes ≡ encode_utf8 mark ++ drop 1 bytes
    = split_first bytes some ∙ ap (λ x. x ∷ drop 1 bytes) first ∙ ap (λ xs. xs ++ drop 1 bytes) (sym (encode_ascii mark ascii))
    in
    sym (ap (without_first mark) (chars_past_char bytes (drop 1 bytes) mark u cut) ∙ same_mark mark (chars (drop 1 bytes)))

pub without_first-other : (mark : ℕ) (text : List ℕ) → begins_with (λ c. c == mark) text ≡ false → text ≡ without_first mark text
without_first-other mark [] other = refl
without_first-other mark (c ∷ text) other = ap (λ same. if same then text else c ∷ text) (sym other)

-- ---- a text that equals a text of ASCII

same_test : {P Q : Type 0} (a b : Bool) → Decides a P → Decides b Q → (P → Q) → (Q → P) → a ≡ b
same_test true true d e there back = refl
same_test false false d e there back = refl
same_test true false d e there back = absurd (false≢true (e.1 (there (d.0 refl))))
same_test false true d e there back = absurd (false≢true (d.1 (back (e.0 refl))))

pub bytes_eq-chars : (bytes word : List ℕ) → IsUtf8 bytes → IsAscii word → bytes_eq (chars bytes) word ≡ bytes_eq bytes word
bytes_eq-chars bytes word u ascii =
    let there : bytes ≡ word → chars bytes ≡ word = λ e. ap chars e ∙ chars-IsAscii word ascii in
    let back : chars bytes ≡ word → bytes ≡ word = λ e. sym (encodes-chars bytes u) ∙ ap encode_utf8_all e ∙ encodes-IsAscii word ascii in
    same_test (bytes_eq (chars bytes) word) (bytes_eq bytes word) (bytes_eq-Decides (chars bytes) word) (bytes_eq-Decides bytes word) back there

-- A text that differs from the word.
pub bytes_eq-other : (bytes word : List ℕ) → ¬ (bytes ≡ word) → bytes_eq bytes word ≡ false
bytes_eq-other bytes word other = refuted (bytes_eq bytes word) (bytes_eq-Decides bytes word) other
  where
    refuted : {P : Type 0} (test : Bool) → Decides test P → ¬ P → test ≡ false
    refuted true d other = absurd (other (d.0 refl))
    refuted false d other = refl

-- ---- the characters of an IPv6 address

ipv6_ascii : (c : ℕ) → is_ipv6_character c ≡ true → c < 128
ipv6_ascii c e = grind (arith, nat_tests)

all_ipv6_ascii : (text : List ℕ) → list_all is_ipv6_character text ≡ true → IsAscii text
all_ipv6_ascii [] e = IsAscii-nil
all_ipv6_ascii (c ∷ text) e =
    let parts = and_parts (is_ipv6_character c) (list_all is_ipv6_character text) e in
    IsAscii-cons c text (ipv6_ascii c parts.0) (all_ipv6_ascii text parts.1)

pub ipv6-chars : (bytes : List ℕ) → IsUtf8 bytes → list_all is_ipv6_character (chars bytes) ≡ list_all is_ipv6_character bytes
ipv6-chars bytes u = go (list_all is_ipv6_character bytes) (list_all is_ipv6_character (chars bytes)) refl refl
  where
    go : (a b : Bool) → list_all is_ipv6_character bytes ≡ a → list_all is_ipv6_character (chars bytes) ≡ b
        → list_all is_ipv6_character (chars bytes) ≡ list_all is_ipv6_character bytes
    go true b e f = ap (list_all is_ipv6_character) (chars-IsAscii bytes (all_ipv6_ascii bytes e))
    go false true e f =
        ap (list_all is_ipv6_character) (sym (sym (encodes-chars bytes u) ∙ encodes-IsAscii (chars bytes) (all_ipv6_ascii (chars bytes) f)))
    go false false e f = f ∙ sym e

pub ipv6-lower : (bytes lower : List ℕ) → list_all is_ipv6_character bytes ≡ true → lower ≡ map to_ascii_lowercase bytes
    → map to_ascii_lowercase (chars bytes) ≡ chars lower
ipv6-lower bytes lower all is_lower =
    let ascii = all_ipv6_ascii bytes all in
    ap (map to_ascii_lowercase) (chars-IsAscii bytes ascii)
    ∙ sym (ap chars is_lower ∙ chars-IsAscii (map to_ascii_lowercase bytes) (IsAscii-map to_ascii_lowercase bytes lowercase_ascii ascii))
