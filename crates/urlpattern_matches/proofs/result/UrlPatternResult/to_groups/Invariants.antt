use Rattle.std.proofs.Common.{◌≡◌, map, take}
use Rattle.std.specs.List.{All}
use Rattle.urlpattern_matches.specs.BorrowedMatches.{HasDistinctGroups, all_listed_groups, borrowed_group, texts_captured}
use Rattle.urlpattern_matches.proofs.result.UrlPatternResult.to_groups.Given as goal

-- The groups of the components so far.
abbrev pub invariant-loop-component : goal.invariant-loop-component
invariant-loop-component l = record {
  added : map borrowed_group l.taken.items ≡ texts_captured (all_listed_groups l.self (take l.component-index l.component-items));
  differ : All (HasDistinctGroups l.self) (take l.component-index l.component-items);
}
