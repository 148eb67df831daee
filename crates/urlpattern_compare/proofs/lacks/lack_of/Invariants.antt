use Rattle.std.proofs.Common.{map, take}
use Rattle.std.specs.List.{All}
use Rattle.urlpattern_compare.specs.CommonTexts.{IsSureIn}
use Rattle.urlpattern_compare.proofs.lacks.lack_of.Given as goal

abbrev pub invariant-loop-component : goal.invariant-loop-component
invariant-loop-component l = All (IsSureIn (map (λ it. it.now) l.all_of) l.pattern) (take l.component-index l.component-items)
