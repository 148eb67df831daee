-- The texts that a matcher strips and compares.
use Rattle.std.proofs.Common.{◌⊎◌, inl, inr, ◌≡◌, ◌↔◌, ℕ, suc, ◌<◌, ◌≤◌, ◌-◌, Bool, true, false, List, [], ◌∷◌, ◌++◌, length, take, drop, get_or, map, refl, sym, ap, ◌∙◌, subst, arith, append_assoc, IsTrue}
use Rattle.std.proofs.lemmas.Bool.Decides.{nat_tests}
use Rattle.std.proofs.lemmas.Bool.{and_parts, cases_lt, false≢true}
use Rattle.std.proofs.lemmas.List.{append-nil, append_cancel_left, map-append, take-append-drop}
use Rattle.std.proofs.lemmas.Str.{chars-append, encodes-append, encodes-chars, encodes_same, cons_from_encodes, encode_ascii, inside_one, IsUtf8-take, IsUtf8-drop}
use Rattle.std.proofs.lemmas.Str.Ascii.{lowercase_ascii, lowercase_is}
use Rattle.std.specs.Char.{eq_ignore_ascii_case, to_ascii_lowercase, encode_utf8}
use Rattle.std.specs.List.{list_any}
use Rattle.std.specs.Borrow.{Bor}
use Rattle.std.specs.Prelude.{encode_utf8_all, Option, Some, None, MatchBool, MatchOption, IfSome, IfNone, not, ◌&&◌, ◌||◌, ◌==◌}
use Rattle.std.specs.Str.Pattern.{FindsChar, FindsTextPrefix, FindsTextSuffix, HasMatch, LacksTextAt, StripsPrefix, StripsSuffix}
use Rattle.std.specs.Str.{chars, IsUtf8, NonePass}
use Rattle.urlpattern_syntax.specs.Text.{lacks}

-- ---- prefix and suffix

-- The characters of three texts, joined.
pub chars-three : (a b d : List ℕ) → IsUtf8 a → IsUtf8 b → chars (a ++ (b ++ d)) ≡ chars a ++ chars b ++ chars d
chars-three a b d u v = chars-append a (b ++ d) u ∙ ap (λ x. chars a ++ x) (chars-append b d v) ∙ sym (append_assoc (chars a) (chars b) (chars d))

-- A text whose characters are those of three texts has their bytes.
pub bytes-three : (s a m d : List ℕ) → IsUtf8 s → IsUtf8 a → IsUtf8 d → chars s ≡ chars a ++ m ++ chars d → s ≡ a ++ (encode_utf8_all m ++ d)
bytes-three s a m d u v w e =
    sym (encodes-chars s u) ∙ ap encode_utf8_all (e ∙ append_assoc (chars a) m (chars d))
    ∙ encodes-append (chars a) (m ++ chars d)
    ∙ ap (λ x. x ++ encode_utf8_all (m ++ chars d)) (encodes-chars a v)
    ∙ ap (λ x. a ++ x) (encodes-append m (chars d) ∙ ap (λ x. encode_utf8_all m ++ x) (encodes-chars d w))

-- The text does not begin with this prefix.
pub not_stripped : (s p d : List ℕ) → IsUtf8 s → IsUtf8 p → IsUtf8 d → LacksTextAt p s 0 → (middle : List ℕ) → ¬ (chars s ≡ chars p ++ middle ++ chars d)
not_stripped s p d u v w lacks middle e = lacks (encode_utf8_all middle ++ d) (bytes-three s p middle d u v w e)

-- The text after the prefix.
stripped : (s p rest : List ℕ) → StripsPrefix (FindsTextPrefix p) s rest → s ≡ p ++ rest
stripped s p rest (n, found, is_rest, len) = found.1 ∙ ap (λ x. p ++ x) (sym is_rest)

stripped-utf8 : (s p rest : List ℕ) → IsUtf8 s → StripsPrefix (FindsTextPrefix p) s rest → IsUtf8 rest
stripped-utf8 s p rest u (n, found, is_rest, len) =
    subst IsUtf8 (ap (λ k. drop k s) (sym found.0) ∙ sym is_rest) (IsUtf8-drop s (length p) u found.2)

-- The text between prefix and suffix, by whether the suffix is found.
pub between-some : (s p d rest : List ℕ) (r : Option (Bor (List ℕ))) → IsUtf8 s → IsUtf8 p → StripsPrefix (FindsTextPrefix p) s rest →
    MatchOption r (FindsTextSuffix d rest None) (λ x. StripsSuffix (FindsTextSuffix d) rest x.now) →
    IfSome r (λ x. chars s ≡ chars p ++ chars x.now ++ chars d)
between-some s p d rest None u v front cases = tt
between-some s p d rest (Some x) u v front (n, found, is_x, len) =
    let whole : rest ≡ x.now ++ d = found.1 ∙ ap (λ t. t ++ d) (sym is_x) in
    let clean : IsUtf8 x.now =
    subst IsUtf8 (ap (λ k. take (length rest - k) rest) (sym found.0) ∙ sym is_x)
    (IsUtf8-take rest (length rest - length d) (stripped-utf8 s p rest u front) found.2) in
    ap chars (stripped s p rest front ∙ ap (λ t. p ++ t) whole) ∙ chars-three p x.now d v clean

pub between-none : (s p d rest : List ℕ) (r : Option (Bor (List ℕ))) → IsUtf8 s → IsUtf8 p → IsUtf8 d → StripsPrefix (FindsTextPrefix p) s rest →
    MatchOption r (FindsTextSuffix d rest None) (λ x. StripsSuffix (FindsTextSuffix d) rest x.now) →
    IfNone r ((middle : List ℕ) → ¬ (chars s ≡ chars p ++ middle ++ chars d))
between-none s p d rest (Some x) u v w front cases = tt
between-none s p d rest None u v w front cases =
    λ middle e. cases (encode_utf8_all middle) (append_cancel_left p rest (encode_utf8_all middle ++ d) (sym (stripped s p rest front) ∙ bytes-three s p middle d u v w e))

-- ---- case

lower-fixed : (c : ℕ) → 128 ≤ c → to_ascii_lowercase c ≡ c
lower-fixed c h = (lowercase_is c).2 (omega arith)

lower-fixed_all : (bytes : List ℕ) → ((k : ℕ) → k < length bytes → 128 ≤ get_or bytes k 0) → map to_ascii_lowercase bytes ≡ bytes
lower-fixed_all [] h = refl
lower-fixed_all (b ∷ bytes) h =
    ap (λ x. x ∷ map to_ascii_lowercase bytes) (lower-fixed b (h 0 (omega arith)))
    ∙ ap (λ x. b ∷ x) (lower-fixed_all bytes (λ k l. h (suc k) (omega arith)))

high-bytes_by : (b : ℕ) → (b < 128 → ⊥) → (b < 128) ⊎ (128 ≤ b) → 128 ≤ b
high-bytes_by b never (inl low) = absurd (never low)
high-bytes_by b never (inr high) = high

-- The bytes of a character that is not ASCII are not ASCII.
high-bytes : (c : ℕ) → 128 ≤ c → (k : ℕ) → k < length (encode_utf8 c) → 128 ≤ get_or (encode_utf8 c) k 0
high-bytes c h k l =
    high-bytes_by (get_or (encode_utf8 c) k 0)
    (λ low. let same : c ≡ get_or (encode_utf8 c) k 0 = inside_one c [] (encode_utf8 c) k (sym (append-nil _)) l low in omega arith)
    (cases_lt _ 128)

lower-encode_by : (c : ℕ) → (c < 128) ⊎ (128 ≤ c) → map to_ascii_lowercase (encode_utf8 c) ≡ encode_utf8 (to_ascii_lowercase c)
lower-encode_by c (inl low) =
    ap (λ bytes. map to_ascii_lowercase bytes) (encode_ascii c low) ∙ sym (encode_ascii (to_ascii_lowercase c) (lowercase_ascii c low))
lower-encode_by c (inr high) = lower-fixed_all (encode_utf8 c) (high-bytes c high) ∙ ap encode_utf8 (sym (lower-fixed c high))

-- Lowercase of the bytes is the bytes of lowercase.
pub lower-encodes : (cs : List ℕ) → map to_ascii_lowercase (encode_utf8_all cs) ≡ encode_utf8_all (map to_ascii_lowercase cs)
lower-encodes [] = refl
lower-encodes (c ∷ cs) =
    map-append to_ascii_lowercase (encode_utf8 c) (encode_utf8_all cs)
    ∙ ap (λ x. x ++ map to_ascii_lowercase (encode_utf8_all cs)) (lower-encode_by c (cases_lt c 128))
    ∙ ap (λ x. encode_utf8 (to_ascii_lowercase c) ++ x) (lower-encodes cs)

pub lower-bytes : (bytes : List ℕ) → IsUtf8 bytes → map to_ascii_lowercase bytes ≡ encode_utf8_all (map to_ascii_lowercase (chars bytes))
lower-bytes bytes u = ap (λ x. map to_ascii_lowercase x) (sym (encodes-chars bytes u)) ∙ lower-encodes (chars bytes)

-- Two texts are equal but for case by their bytes if and only if they are by their characters.
pub same_but_case : (a b : List ℕ) → IsUtf8 a → IsUtf8 b →
    (map to_ascii_lowercase a ≡ map to_ascii_lowercase b) ↔ (map to_ascii_lowercase (chars a) ≡ map to_ascii_lowercase (chars b))
same_but_case a b u v = (
  λ e. encodes_same _ _ (sym (lower-bytes a u) ∙ e ∙ lower-bytes b v),
  λ e. lower-bytes a u ∙ ap encode_utf8_all e ∙ sym (lower-bytes b v),
)

-- Two texts are equal by their bytes if and only if they are by their characters.
pub same_chars : (a b : List ℕ) → IsUtf8 a → IsUtf8 b → (a ≡ b) ↔ (chars a ≡ chars b)
same_chars a b u v = (λ e. ap chars e, λ e. sym (encodes-chars a u) ∙ ap encode_utf8_all e ∙ encodes-chars b v)

-- ---- filters

lacks-one : (c d : ℕ) (cs : List ℕ) → IsTrue (lacks c (d ∷ cs)) → IsTrue (lacks c cs)
lacks-one c d cs h = (and_parts (not (d == c)) (lacks c cs) h).1

pub eqb-self : (c : ℕ) → (c == c) ≡ true
eqb-self c = grind (arith, nat_tests)

-- A character is among those of a text.
has-char : (cs ks rest : List ℕ) (c : ℕ) → encode_utf8_all ks ≡ encode_utf8_all cs ++ (encode_utf8 c ++ rest) → ¬ IsTrue (lacks c ks)
has-char [] ks rest c e h =
    let (es, is_ks, more) = cons_from_encodes ks rest c e in
    let first : IsTrue (not (c == c)) = (and_parts (not (c == c)) (lacks c es) (subst (λ x. IsTrue (lacks c x)) is_ks h)).0 in
    false≢true (sym (ap not (eqb-self c)) ∙ first)
has-char (d ∷ cs) ks rest c e h =
    let (es, is_ks, more) = cons_from_encodes ks (encode_utf8_all cs ++ (encode_utf8 c ++ rest)) d (e ∙ append_assoc (encode_utf8 d) (encode_utf8_all cs) (encode_utf8 c ++ rest)) in
    has-char cs es rest c more (lacks-one c d es (subst (λ x. IsTrue (lacks c x)) is_ks h))

none-lacks : (c : ℕ) (cs : List ℕ) → NonePass (λ d. d == c) cs → IsTrue (lacks c cs)
none-lacks c [] h = refl
none-lacks c (d ∷ cs) (e, h) = ap (λ b. not b && lacks c cs) e ∙ none-lacks c cs h

-- Whether a text lacks a character, by a search.
pub lacks-searched : (c : ℕ) (s : List ℕ) (r : Bool) → IsUtf8 s → MatchBool r (HasMatch (FindsChar c) s) (FindsChar c s None) → IsTrue (not r) ↔ IsTrue (lacks c (chars s))
lacks-searched c s true u (i, j, (before, at), order, within) = (
  λ e. absurd (false≢true e),
  λ h. absurd (has-char before.0 (chars s) (drop j s) c (encodes-chars s u ∙ sym (take-append-drop i s) ∙ ap (λ x. x ++ drop i s) (sym before.1) ∙ ap (λ x. encode_utf8_all before.0 ++ x) at.split) h),
)
lacks-searched c s false u (cs, is_s, none) = (
  λ e. subst (λ x. IsTrue (lacks c x)) (encodes_same cs (chars s) (is_s ∙ sym (encodes-chars s u))) (none-lacks c cs none),
  λ h. refl,
)

not-or : (a b : Bool) → not (a || b) ≡ (not a && not b)
not-or true b = refl
not-or false b = refl

-- Whether a text lacks a character, where case is ignored.
pub lacks-any : (c : ℕ) (cs : List ℕ) → not (list_any (λ other. eq_ignore_ascii_case other c) cs) ≡ lacks (to_ascii_lowercase c) (map to_ascii_lowercase cs)
lacks-any c [] = refl
lacks-any c (d ∷ cs) = not-or (eq_ignore_ascii_case d c) (list_any (λ other. eq_ignore_ascii_case other c) cs) ∙ ap (λ b. not (eq_ignore_ascii_case d c) && b) (lacks-any c cs)
