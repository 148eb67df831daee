-- Lemmas on the first pattern that matches, from an index on.
use Rattle.std.proofs.Common.{◌≡◌, ◌+◌, ◌-◌, ◌<◌, ◌≤◌, ◌∙◌, ℕ, List, ap, arith, inl, inr, length, refl, subst, sym, take, take_all}
use Rattle.std.proofs.lemmas.Bool.{cases_lt}
use Rattle.std.proofs.lemmas.Option.{IfSome_then, same_Some, slice_get-map}
use Rattle.std.specs.Prelude.{All, IfSome, Option, Some, None, option_map, slice_get, unwrap_or}
use Rattle.urlpattern.proofs.FixedLemmas.{All-passed, found_within}
use Rattle.urlpattern.specs.FirstMatch.{CallsEngineBeforeMatch, FirstView, IsFirstMatchOf, patterns_view}
use Rattle.urlpattern.specs.NextMatch.{NoneMatchBetween, CallsEngineBeforeMatchFrom, IsFirstMatchFrom}
use Rattle.urlpattern.specs.PatternKeys.{AreIndexed, address_of}
use Rattle.urlpattern_index.specs.Keys.{Hashes, hashes_of}
use Rattle.urlpattern_index.specs.Listed.{Finds, IsLeast, Listing}
use Rattle.urlpattern_meaning.specs.PartMeaning.{Captures}
use Rattle.urlpattern_pattern.specs.Match.{DoesNotMatch}
use Rattle.urlpattern_pattern.specs.Patterns.{PatternView, pattern_view}
use Rattle.urlpattern_pattern.specs.UrlPatterns.{UrlPattern}
use Rattle.urlpattern_components.specs.Eight.{Texts}

-- What a mapped option has.
pub some-mapped : {X Y : Type 0} (f : X → Y) (found : Option X) (y : Y) → option_map f found ≡ Some y → (x : X) × (found ≡ Some x) × (f x ≡ y)
some-mapped f None y is = absurd cc
some-mapped f (Some x) y is = (x, refl, same_Some (f x) y is)

not-found : (Q : ℕ → Type 0) (from index count : ℕ) (found : Option ℕ) → IsLeast (λ number. (from ≤ number) × Q number) found
    → from ≤ index → index < unwrap_or found count → ¬ Q index
not-found Q from index count (Some next) least le lt = λ q. let other : next ≤ index = least.1 index (le, q) in let below : index < next = lt in absurd (omega arith)
not-found Q from index count None none le lt = λ q. none index (le, q)

-- A number that the index finds is that of a pattern.
pub found-inside : {E : Type 0} (answer : E → List ℕ → Option Captures) (patterns : List (UrlPattern E)) (listing : Listing) → AreIndexed answer patterns listing → (hashes : Hashes) (from : ℕ) (found : Option ℕ)
    → IsLeast (λ number. (from ≤ number) × Finds listing hashes number) found → IfSome found (λ index. (from ≤ index) × (index < length patterns))
found-inside answer patterns listing are hashes from (Some next) least = (least.0.0, found_within answer patterns listing are hashes next least.0.1)
found-inside answer patterns listing are hashes from None none = tt

module _ {E : Type 0} (answer : E → List ℕ → Option Captures) (texts : Texts) where
  -- The patterns before the number that the index finds do not match.
  pub found-passed : (patterns : List (UrlPattern E)) (listing : Listing) → AreIndexed answer patterns listing → (hashes : Hashes) → hashes ≡ hashes_of (address_of texts) → (from : ℕ) (found : Option ℕ)
      → IsLeast (λ number. (from ≤ number) × Finds listing hashes number) found → NoneMatchBetween answer (patterns_view patterns) texts from (unwrap_or found (length (patterns_view patterns)))
  found-passed patterns listing are hashes same from found least = λ index pattern le lt is.
      let (own, there, view) = some-mapped (λ pattern. pattern_view pattern) (slice_get patterns index) pattern (sym (slice_get-map (λ pattern. pattern_view pattern) patterns index) ∙ is) in
      let missed = not-found (Finds listing hashes) from index (length (patterns_view patterns)) found least le lt in
      subst (λ (view : PatternView E). DoesNotMatch answer view texts) view (are.refuses index own there texts (subst (λ h. ¬ Finds listing h index) same missed))

  -- ---- from an index on

  pub refused-joined : (patterns : List (PatternView E)) (from index end : ℕ) → NoneMatchBetween answer patterns texts from index → NoneMatchBetween answer patterns texts index end
      → NoneMatchBetween answer patterns texts from end
  refused-joined patterns from index end before after = λ k pattern le lt is. elim (cases_lt k index) [ inl earlier ↦ before k pattern le earlier is | inr later ↦ after k pattern later lt is ]

  -- A pattern that does not match is appended to the range.
  refused-more : (patterns : List (PatternView E)) (from index : ℕ) (last : PatternView E) → slice_get patterns index ≡ Some last
      → NoneMatchBetween answer patterns texts from index → DoesNotMatch answer last texts → NoneMatchBetween answer patterns texts from (index + 1)
  refused-more patterns from index last is_last before refused = λ k pattern le lt is. elim (cases_lt k index) [
    | inl earlier ↦ before k pattern le earlier is
    | inr later ↦
        let same : k ≡ index = omega arith in
        subst (λ (p : PatternView E). DoesNotMatch answer p texts) (same_Some last pattern (sym is_last ∙ ap (slice_get patterns) (sym same) ∙ is)) refused
  ]

  -- A first match from an index on is the first from an earlier index on, if the patterns between
  -- do not match.
  pub first-earlier : (patterns : List (PatternView E)) (from index : ℕ) (found : Option FirstView) → from ≤ index → NoneMatchBetween answer patterns texts from index
      → IsFirstMatchFrom answer patterns texts index found → IsFirstMatchFrom answer patterns texts from found
  first-earlier patterns from index (Some first) le before (later, there, refused) = (omega arith, there, refused-joined patterns from index first.0 before refused)
  first-earlier patterns from index None le before refused = refused-joined patterns from index (length patterns) before refused

  pub asks-earlier : (patterns : List (PatternView E)) (from index : ℕ) → from ≤ index → NoneMatchBetween answer patterns texts from index
      → CallsEngineBeforeMatchFrom answer patterns texts index → CallsEngineBeforeMatchFrom answer patterns texts from
  asks-earlier patterns from index le before (asking, pattern, later, is_there, asks, refused) =
      (asking, pattern, omega arith, is_there, asks, refused-joined patterns from index asking before refused)

  -- ---- the pattern that is tried next

  -- The pattern at an index is tried next, or none is.
  abbrev pub IsNext : List (UrlPattern E) → (from : ℕ) → Option ℕ → Type 0
  IsNext patterns from found =
      IfSome found (λ index. (from ≤ index) × (index < length patterns))
      × NoneMatchBetween answer (patterns_view patterns) texts from (unwrap_or found (length (patterns_view patterns)))

  -- The next pattern after one that does not match.
  pub next-found : (patterns : List (UrlPattern E)) (start index : ℕ) (last : PatternView E) → start ≤ index → slice_get (patterns_view patterns) index ≡ Some last
      → NoneMatchBetween answer (patterns_view patterns) texts start index → DoesNotMatch answer last texts → (found : Option ℕ) → IsNext patterns (index + 1) found → IsNext patterns start found
  next-found patterns start index last le is_last before refused found (inside, after) = (
    IfSome_then found inside (λ next is. let later : index + 1 ≤ next = is.0 in (omega arith, is.1)),
    refused-joined (patterns_view patterns) start (index + 1) (unwrap_or found (length (patterns_view patterns)))
        (refused-more (patterns_view patterns) start index last is_last before refused) after,
  )

  -- ---- from the first pattern on

  refused-before : (patterns : List (PatternView E)) (end : ℕ) → NoneMatchBetween answer patterns texts 0 end → All (λ pattern. DoesNotMatch answer pattern texts) (take end patterns)
  refused-before patterns end refused =
      All-passed (λ pattern. DoesNotMatch answer pattern texts) patterns 0 end (λ k d lt. absurd (omega (arith, lt))) (λ k pattern le lt is. refused k pattern le lt is)

  pub first-of_all : (patterns : List (PatternView E)) (found : Option FirstView) → IsFirstMatchFrom answer patterns texts 0 found → IsFirstMatchOf answer patterns texts found
  first-of_all patterns (Some first) (le, there, refused) = (there, refused-before patterns first.0 refused)
  first-of_all patterns None refused =
      let whole : length patterns ≤ length patterns = omega arith in
      subst (All (λ (pattern : PatternView E). DoesNotMatch answer pattern texts)) (take_all (length patterns) patterns whole) (refused-before patterns (length patterns) refused)

  pub asks-of_all : (patterns : List (PatternView E)) → CallsEngineBeforeMatchFrom answer patterns texts 0 → CallsEngineBeforeMatch answer patterns texts
  asks-of_all patterns (index, pattern, le, is_there, asks, refused) = (index, pattern, is_there, asks, refused-before patterns index refused)

-- The number of patterns that may still be tried.
abbrev pub left : (count : ℕ) → Option ℕ → ℕ
left count (Some index) = count - index
left count None = 0

pub less-left : (count index : ℕ) (found : Option ℕ) → index < count → IfSome found (λ next. (index + 1 ≤ next) × (next < count)) → left count found < left count (Some index)
less-left count index (Some next) within later = let after : index + 1 ≤ next = later.0 in omega arith
less-left count index None within none = omega arith
