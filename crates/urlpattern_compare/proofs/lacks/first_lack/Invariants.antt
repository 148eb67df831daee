use Rattle.std.proofs.Common.{map, take}
use Rattle.std.specs.List.{All}
use Rattle.urlpattern_compare.specs.CommonTexts.{IsSure}
use Rattle.urlpattern_compare.proofs.lacks.first_lack.Given as goal

abbrev pub invariant-loop-index : goal.invariant-loop-index
invariant-loop-index l = All (IsSure (map (λ it. it.now) l.all_of)) (map (λ it. it.now) (take l.index l.patterns))
