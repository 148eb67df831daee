-- What a list of patterns finds, for the map that has its patterns as keys.
use Rattle.std.proofs.Common.{ℕ, List, ◌≡◌, ◌∙◌, ◌<◌, ap, arith, length, refl, sym}
use Rattle.std.proofs.lemmas.Map.Made.{keys_of-zip}
use Rattle.std.proofs.lemmas.Option.{slice_get_within}
use Rattle.std.specs.Borrow.{Bor}
use Rattle.std.specs.Map.{keys_of}
use Rattle.std.specs.Prelude.{IfSome, None, Option, Some, zip}
use Rattle.urlpattern.proofs.PatternMapLemmas.{length-mapped, length-pairs}
use Rattle.url.specs.Parts.{Parts}
use Rattle.urlpattern.specs.FirstMatch.{IsFirstCaptured, IsFirstMatch, first_captures_view, patterns_view}
use Rattle.urlpattern.specs.NextMatch.{IsFirstCapturedFrom}
use Rattle.urlpattern.specs.PatternMaps.{first_entry_view, without_value}
use Rattle.urlpattern_components.specs.Eight.{Texts}
use Rattle.urlpattern_init.specs.declared.init.UrlPatternMatchInput.TheVariants.{Url as UrlInput}
use Rattle.urlpattern_matches.specs.declared.captures.UrlPatternCaptures.{UrlPatternCaptures}
use Rattle.urlpattern_meaning.specs.PartMeaning.{Captures}
use Rattle.urlpattern_pattern.specs.Patterns.{pattern_view}
use Rattle.urlpattern_pattern.specs.UrlPatterns.{UrlPattern}

module _ {E T : Type 0} (patterns : List (UrlPattern E)) (values : List T) (entries : List (UrlPattern E × T)) (as_many : length values ≡ length patterns)
    (are : zip patterns values ≡ entries) where
  -- The keys of the map are the patterns of the list.
  pub are_keys : patterns ≡ keys_of entries
  are_keys = sym (keys_of-zip patterns values as_many) ∙ ap keys_of are

  pub as_long : length entries ≡ length patterns
  as_long = ap length (sym are) ∙ length-pairs patterns values as_many

  -- The first match is of an entry of the map.
  pub first_within : (answer : E → List ℕ → Option Captures) (texts : Texts) (found : Option (ℕ × UrlPatternCaptures))
      → IsFirstCaptured answer (patterns_view patterns) texts found → IfSome found (λ first. first.0 < length entries)
  first_within answer texts None is = tt
  first_within answer texts (Some first) ((pattern, is_there, match), earlier) =
      let within : first.0 < length (patterns_view patterns) = slice_get_within (patterns_view patterns) first.0 pattern is_there in
      omega (arith, length-mapped (λ pattern. pattern_view pattern) patterns, as_long)

  -- The first match from an index on is of an entry of the map.
  pub next_within : (answer : E → List ℕ → Option Captures) (texts : Texts) (from : ℕ) (found : Option (ℕ × UrlPatternCaptures))
      → IsFirstCapturedFrom answer (patterns_view patterns) texts from found → IfSome found (λ first. first.0 < length entries)
  next_within answer texts from None is = tt
  next_within answer texts from (Some first) (later, (pattern, is_there, match), earlier) =
      let within : first.0 < length (patterns_view patterns) = slice_get_within (patterns_view patterns) first.0 pattern is_there in
      omega (arith, length-mapped (λ pattern. pattern_view pattern) patterns, as_long)

  -- The first match of a URL is of an entry of the map.
  pub first_of_url_within : (answer : E → List ℕ → Option Captures) (url : Parts) (found : Option (ℕ × UrlPatternCaptures))
      → IsFirstMatch answer (patterns_view patterns) (UrlInput url) (first_captures_view found) → IfSome found (λ first. first.0 < length entries)
  first_of_url_within answer url None is = tt
  first_of_url_within answer url (Some first) ((pattern, is_there, match), earlier) =
      let within : first.0 < length (patterns_view patterns) = slice_get_within (patterns_view patterns) first.0 pattern is_there in
      omega (arith, length-mapped (λ pattern. pattern_view pattern) patterns, as_long)

-- The view of a match with a value is that of the match.
pub entry-view : {T : Type 0} (found : Option (ℕ × Bor T × UrlPatternCaptures)) → first_captures_view (without_value found) ≡ first_entry_view found
entry-view None = refl
entry-view (Some first) = refl
