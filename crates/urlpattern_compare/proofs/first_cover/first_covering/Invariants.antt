use Rattle.std.proofs.Common.{take}
use Rattle.std.specs.List.{All}
use Rattle.urlpattern_compare.proofs.ListedLemmas.{all_now}
use Rattle.urlpattern_compare.specs.Comparing.{IsNotKnownToCover}
use Rattle.urlpattern_compare.proofs.first_cover.first_covering.Given as goal

abbrev pub invariant-loop-index : goal.invariant-loop-index
invariant-loop-index l = All (IsNotKnownToCover l.asked) (take l.index (all_now l.patterns))
