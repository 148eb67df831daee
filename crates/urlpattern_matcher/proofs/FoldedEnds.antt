-- The ends of a text that are stripped where case is ignored.
use Rattle.std.proofs.Common.{◌≡◌, ℕ, ◌+◌, ◌≤◌, ◌-◌, Bool, true, false, List, [], ◌∷◌, ◌++◌, length, take, drop, map, refl, sym, ap, ◌∙◌, subst, arith, append_assoc, IsTrue}
use Rattle.std.proofs.lemmas.Bool.{and_parts}
use Rattle.std.proofs.lemmas.List.{drop_at, length-append, length-map, take-append-drop, take_at}
use Rattle.std.proofs.lemmas.Str.{IsCharBoundary-at_seam, IsUtf8-drop, IsUtf8-take, chars-append, encodes-append, encodes-chars, scalars-chars}
use Rattle.std.specs.Bool.{then_some}
use Rattle.std.specs.Char.{to_ascii_lowercase}
use Rattle.std.specs.Prelude.{encode_utf8_all, IfNone, IfSome, Option, Some, None}
use Rattle.std.specs.Str.{IsCharBoundary, IsUtf8, chars}
use Rattle.urlpattern_matcher.specs.Matchers.{BeginsWithFolded, EndsWithFolded}
use Rattle.urlpattern_meaning.specs.Matching.{HasMiddle, IsSame, MatcherView}
use Rattle.urlpattern_meaning.proofs.Middles.{rest_one, same-length}
use Rattle.urlpattern_matcher.proofs.MatcherTexts.{lower-bytes, lower-encodes, same_but_case}
use lib.Utf8.{scalar, scalars}

-- ---- bytes

-- The bytes of an end that is equal but for case.
same-bytes : (end other : List ℕ) → IsUtf8 other → IsSame true end (chars other) → map to_ascii_lowercase (encode_utf8_all end) ≡ map to_ascii_lowercase other
same-bytes end other u same = lower-encodes end ∙ ap encode_utf8_all same ∙ sym (lower-bytes other u)

bytes-length : (end other : List ℕ) → IsUtf8 other → IsSame true end (chars other) → length (encode_utf8_all end) ≡ length other
bytes-length end other u same =
    sym (length-map (encode_utf8_all end) to_ascii_lowercase) ∙ ap length (same-bytes end other u same) ∙ length-map other to_ascii_lowercase

scalars-right : (front rest : List ℕ) → scalars (front ++ rest) ≡ true → scalars rest ≡ true
scalars-right [] rest h = h
scalars-right (c ∷ front) rest h = scalars-right front rest (and_parts (scalar c) (scalars (front ++ rest)) h).1

-- A text that is cut by its characters is cut by its bytes.
cut-bytes : (s front rest : List ℕ) → IsUtf8 s → chars s ≡ front ++ rest → s ≡ encode_utf8_all front ++ encode_utf8_all rest
cut-bytes s front rest u e = sym (encodes-chars s u) ∙ ap encode_utf8_all e ∙ encodes-append front rest

cut-boundary : (s front rest : List ℕ) (n : ℕ) → IsUtf8 s → chars s ≡ front ++ rest → length (encode_utf8_all front) ≡ n → IsCharBoundary s n
cut-boundary s front rest n u e len =
    let scalar_rest : scalars rest ≡ true = scalars-right front rest (sym (ap scalars e) ∙ scalars-chars s u) in
    subst (λ k. IsCharBoundary s k) len (IsCharBoundary-at_seam s (encode_utf8_all front) (encode_utf8_all rest) (cut-bytes s front rest u e) (rest, (scalar_rest, refl)))

-- A text that is cut by its bytes is cut by its characters.
cut-chars : (s : List ℕ) (n : ℕ) → IsUtf8 s → IsCharBoundary s n → chars s ≡ chars (take n s) ++ chars (drop n s)
cut-chars s n u at = sym (ap chars (take-append-drop n s)) ∙ chars-append (take n s) (drop n s) (IsUtf8-take s n u at)

-- ---- a prefix

pub begins-boundary : (s p rest : List ℕ) → IsUtf8 s → IsUtf8 p → BeginsWithFolded (chars p) (chars s) rest → IsCharBoundary s (length p)
begins-boundary s p rest u v (front, e, same) = cut-boundary s front rest (length p) u e (bytes-length front p v same)

pub begins-some : (s p front rest : List ℕ) → IsUtf8 s → IsUtf8 p → IsCharBoundary s (length p) → front ≡ take (length p) s → rest ≡ drop (length p) s →
    map to_ascii_lowercase front ≡ map to_ascii_lowercase p → BeginsWithFolded (chars p) (chars s) (chars rest)
begins-some s p front rest u v at is_front is_rest same =
    let clean : IsUtf8 front = subst IsUtf8 (sym is_front) (IsUtf8-take s (length p) u at) in
    (chars front, cut-chars s (length p) u at ∙ ap (λ t. chars t ++ chars (drop (length p) s)) (sym is_front) ∙ ap (λ t. chars front ++ chars t) (sym is_rest), (same_but_case front p clean v).0 same)

pub begins-same : (s p front rest : List ℕ) → IsUtf8 s → IsUtf8 p → front ≡ take (length p) s → BeginsWithFolded (chars p) (chars s) rest →
    map to_ascii_lowercase front ≡ map to_ascii_lowercase p
begins-same s p front rest u v is_front (begin, e, same) =
    let is : front ≡ encode_utf8_all begin =
    is_front ∙ ap (λ t. take (length p) t) (cut-bytes s begin rest u e) ∙ take_at (encode_utf8_all begin) (encode_utf8_all rest) (length p) (bytes-length begin p v same) in
    ap (λ t. map to_ascii_lowercase t) is ∙ same-bytes begin p v same

-- ---- a suffix

ends-lengths : (s d rest back : List ℕ) → IsUtf8 s → IsUtf8 d → chars s ≡ rest ++ back → IsSame true back (chars d) → length (encode_utf8_all rest) + length d ≡ length s
ends-lengths s d rest back u v e same =
    ap (λ n. length (encode_utf8_all rest) + n) (sym (bytes-length back d v same)) ∙ sym (length-append (encode_utf8_all rest) (encode_utf8_all back)) ∙ sym (ap length (cut-bytes s rest back u e))

ends-place : (s d rest back : List ℕ) → IsUtf8 s → IsUtf8 d → chars s ≡ rest ++ back → IsSame true back (chars d) → length (encode_utf8_all rest) ≡ length s - length d
ends-place s d rest back u v e same = let lengths = ends-lengths s d rest back u v e same in omega arith

pub ends-long : (s d rest : List ℕ) → IsUtf8 s → IsUtf8 d → EndsWithFolded (chars d) (chars s) rest → length d ≤ length s
ends-long s d rest u v (back, e, same) = let lengths = ends-lengths s d rest back u v e same in omega arith

pub ends-boundary : (s d rest : List ℕ) → IsUtf8 s → IsUtf8 d → EndsWithFolded (chars d) (chars s) rest → IsCharBoundary s (length s - length d)
ends-boundary s d rest u v (back, e, same) = cut-boundary s rest back (length s - length d) u e (ends-place s d rest back u v e same)

pub ends-some : (s d rest back : List ℕ) (n : ℕ) → IsUtf8 s → IsUtf8 d → IsCharBoundary s n → rest ≡ take n s → back ≡ drop n s →
    map to_ascii_lowercase back ≡ map to_ascii_lowercase d → EndsWithFolded (chars d) (chars s) (chars rest)
ends-some s d rest back n u v at is_rest is_back same =
    let clean : IsUtf8 back = subst IsUtf8 (sym is_back) (IsUtf8-drop s n u at) in
    (chars back, cut-chars s n u at ∙ ap (λ t. chars t ++ chars (drop n s)) (sym is_rest) ∙ ap (λ t. chars rest ++ chars t) (sym is_back), (same_but_case back d clean v).0 same)

pub ends-same : (s d rest back : List ℕ) → IsUtf8 s → IsUtf8 d → back ≡ drop (length s - length d) s → EndsWithFolded (chars d) (chars s) rest →
    map to_ascii_lowercase back ≡ map to_ascii_lowercase d
ends-same s d rest back u v is_back (end, e, same) =
    let is : back ≡ encode_utf8_all end =
    is_back ∙ ap (λ t. drop (length s - length d) t) (cut-bytes s rest end u e) ∙ drop_at (encode_utf8_all rest) (encode_utf8_all end) (length s - length d) (ends-place s d rest end u v e same) in
    ap (λ t. map to_ascii_lowercase t) is ∙ same-bytes end d v same

-- ---- by a test

pub then_some-some : {A : Type 0} (test : Bool) (x : A) (result : Option A) (P : A → Type 0) → result ≡ then_some test x → (IsTrue test → P x) → IfSome result P
then_some-some true x result P e h = rw e (h refl)
then_some-some false x result P e h = rw e tt

pub then_some-none : {A : Type 0} (test : Bool) (x : A) (result : Option A) (P : Type 0) → result ≡ then_some test x → (¬ IsTrue test → P) → IfNone result P
then_some-none true x result P e h = rw e tt
then_some-none false x result P e h = rw e (h (λ t. cc t))

pub some-weaker : {A : Type 0} (result : Option A) (P Q : A → Type 0) → ((x : A) → P x → Q x) → IfSome result P → IfSome result Q
some-weaker None P Q weaker h = tt
some-weaker (Some x) P Q weaker h = weaker x h

pub none-weaker : {A : Type 0} (result : Option A) (P Q : Type 0) → (P → Q) → IfNone result P → IfNone result Q
none-weaker None P Q weaker h = weaker h
none-weaker (Some x) P Q weaker h = tt

-- ---- both ends

pub between-folded : {E : Type 0} (matcher : MatcherView E) (text rest middle : List ℕ) → matcher.ignore_case ≡ true →
    BeginsWithFolded matcher.prefix text rest → EndsWithFolded matcher.suffix rest middle → HasMiddle matcher text middle
between-folded matcher text rest middle ignored (front, e, begins) (back, f, ends) = (
  front,
  back,
  e ∙ ap (λ t. front ++ t) f ∙ sym (append_assoc front middle back),
  subst (λ b. IsSame b front matcher.prefix) (sym ignored) begins,
  subst (λ b. IsSame b back matcher.suffix) (sym ignored) ends,
)

-- What has a middle begins with the prefix.
pub begins-between : {E : Type 0} (matcher : MatcherView E) (text middle : List ℕ) → matcher.ignore_case ≡ true → HasMiddle matcher text middle →
    (rest : List ℕ) × BeginsWithFolded matcher.prefix text rest
begins-between matcher text middle ignored (front, back, e, begins, ends) =
    (middle ++ back, (front, e ∙ append_assoc front middle back, subst (λ b. IsSame b front matcher.prefix) ignored begins))

-- The text after the prefix ends with the suffix.
pub ends-between : {E : Type 0} (matcher : MatcherView E) (text rest middle : List ℕ) → matcher.ignore_case ≡ true → BeginsWithFolded matcher.prefix text rest →
    HasMiddle matcher text middle → EndsWithFolded matcher.suffix rest middle
ends-between matcher text rest middle ignored (begin, f, same) (front, back, e, begins, ends) =
    let fronts = same-length true begin matcher.prefix same ∙ sym (same-length matcher.ignore_case front matcher.prefix begins) in
    (back, rest_one begin front rest (middle ++ back) fronts (sym f ∙ e ∙ append_assoc front middle back), subst (λ b. IsSame b back matcher.suffix) ignored ends)
