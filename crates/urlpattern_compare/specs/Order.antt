-- The order of lists of parts: the more specific list is the greater.
use Rattle.std.specs.Prelude.{ℕ, List, [], ◌∷◌, map, string_bytes}
use Rattle.std.specs.Cmp.Lexicographic.{slice_cmp}
use Rattle.std.specs.Ordering.{nat_cmp, on, ordering_then, then_cmp}
use Rattle.std.specs.declared.cmp.Ordering.{Ordering}
use Rattle.std.specs.declared.cmp.Ordering.TheVariants.{Equal}
use Rattle.urlpattern_compare.specs.declared.order.Rank.{Rank}
use Rattle.urlpattern_syntax.specs.declared.parser.{Part.Part, PartModifier.PartModifier, PartType.PartType}

-- The rank of a part: kind, modifier, and texts as bytes.
pub record RankView : Type 0 where
  pub kind : ℕ
  pub modifier : ℕ
  pub prefix : List ℕ
  pub value : List ℕ
  pub suffix : List ℕ

-- The view of a rank.
abbrev pub rank_view : Rank → RankView
rank_view rank = record {
  kind = rank.kind;
  modifier = rank.modifier;
  prefix = rank.prefix.now;
  value = rank.value.now;
  suffix = rank.suffix.now;
}

-- The rank of a kind. From the greatest to the least: fixed text, custom expression, segment
-- wildcard, full wildcard.
abbrev pub kind_rank : PartType → ℕ
kind_rank PartType.FixedText = 3
kind_rank PartType.Regexp = 2
kind_rank PartType.SegmentWildcard = 1
kind_rank PartType.FullWildcard = 0

-- The rank of a modifier. From the greatest to the least: no modifier, `+`, `?`, `*`.
abbrev pub modifier_rank : PartModifier → ℕ
modifier_rank PartModifier.None = 3
modifier_rank PartModifier.OneOrMore = 2
modifier_rank PartModifier.Optional = 1
modifier_rank PartModifier.ZeroOrMore = 0

-- The rank of a part.
abbrev pub rank_of : Part → RankView
rank_of part = record {
  kind = kind_rank part.kind;
  modifier = modifier_rank part.modifier;
  prefix = string_bytes part.prefix;
  value = string_bytes part.value;
  suffix = string_bytes part.suffix;
}

-- The rank of a missing part, which counts as an empty fixed text.
abbrev pub no_rank : RankView
no_rank = record {
  kind = kind_rank PartType.FixedText;
  modifier = modifier_rank PartModifier.None;
  prefix = [];
  value = [];
  suffix = [];
}

-- Compares two ranks field by field; the first difference decides.
abbrev pub rank_cmp : RankView → RankView → Ordering
rank_cmp =
    then_cmp (on (λ (rank : RankView). rank.kind) nat_cmp)
    (then_cmp (on (λ (rank : RankView). rank.modifier) nat_cmp)
    (then_cmp (on (λ (rank : RankView). rank.prefix) (slice_cmp nat_cmp))
    (then_cmp (on (λ (rank : RankView). rank.value) (slice_cmp nat_cmp))
    (on (λ (rank : RankView). rank.suffix) (slice_cmp nat_cmp)))))

-- The first rank, or that of a missing part.
abbrev pub first_rank : List RankView → RankView
first_rank [] = no_rank
first_rank (rank ∷ ranks) = rank

-- The ranks after the first.
abbrev pub other_ranks : List RankView → List RankView
other_ranks [] = []
other_ranks (rank ∷ ranks) = ranks

-- Compares no ranks with a list of ranks: the rank of a missing part with each of them.
abbrev pub none_cmp : List RankView → Ordering
none_cmp [] = Equal
none_cmp (rank ∷ ranks) = ordering_then (rank_cmp no_rank rank) (none_cmp ranks)

-- Compares a list of ranks with no ranks: each of them with the rank of a missing part.
abbrev pub cmp_none : List RankView → Ordering
cmp_none [] = Equal
cmp_none (rank ∷ ranks) = ordering_then (rank_cmp rank no_rank) (cmp_none ranks)

-- Compares two lists of ranks pairwise; the first difference decides, and the shorter list is
-- extended by ranks of missing parts.
abbrev pub ranks_cmp : List RankView → List RankView → Ordering
ranks_cmp [] others = none_cmp others
ranks_cmp (rank ∷ ranks) [] = cmp_none (rank ∷ ranks)
ranks_cmp (rank ∷ ranks) (other ∷ others) =
    ordering_then (rank_cmp rank other) (ranks_cmp ranks others)

-- Compares two lists of parts by their ranks.
abbrev pub parts_cmp : List Part → List Part → Ordering
parts_cmp parts others = ranks_cmp (map rank_of parts) (map rank_of others)
