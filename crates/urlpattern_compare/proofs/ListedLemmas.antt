-- The patterns of a list, by their indices.
use Rattle.std.proofs.Common.{◌≡◌, ◌∙◌, ◌<◌, ◌+◌, ℕ, List, refl, sym, subst, ap, get_or, length, map, take, Some}
use Rattle.std.proofs.lemmas.Option.{get_or_from_slice_get, slice_get-map, slice_get_read, slice_get_within}
use Rattle.std.specs.Borrow.{Bor}
use Rattle.std.proofs.lemmas.List.Elements.{All-more}
use Rattle.std.specs.List.{All, slice_get}
use Rattle.std.specs.Prelude.{option_map}
use Rattle.urlpattern_compare.specs.declared.pattern_parts.PatternParts.{PatternParts}

-- The referenced pattern.
abbrev pub now : Bor PatternParts → PatternParts
now pattern = pattern.now

abbrev pub all_now : List (Bor PatternParts) → List PatternParts
all_now patterns = map now patterns

-- The pattern at an index.
pub now_at : (patterns : List (Bor PatternParts)) (i : ℕ) (pattern : Bor PatternParts) → i < length patterns → pattern ≡ get_or patterns i pattern
    → slice_get (all_now patterns) i ≡ Some pattern.now
now_at patterns i pattern within is = slice_get-map now patterns i ∙ ap (option_map now) (slice_get_read patterns (length patterns) i pattern refl within is)

-- What holds of the patterns before an index and of the pattern at the index holds of those before
-- the next index.
pub all_more : (P : PatternParts → Type 0) (patterns : List PatternParts) (i : ℕ) (pattern : PatternParts) → slice_get patterns i ≡ Some pattern
    → All P (take i patterns) → P pattern → All P (take (i + 1) patterns)
all_more P patterns i pattern there before is =
    All-more P patterns i pattern (slice_get_within patterns i pattern there) before (subst P (sym (get_or_from_slice_get patterns i pattern pattern there)) is)
