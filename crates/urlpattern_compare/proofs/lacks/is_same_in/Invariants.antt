use Rattle.std.proofs.Common.{map, take}
use Rattle.urlpattern_compare.specs.CommonTexts.{IsSameIn}
use Rattle.urlpattern_compare.proofs.lacks.is_same_in.Given as goal

abbrev pub invariant-loop-one : goal.invariant-loop-one
invariant-loop-one l = ¬ IsSameIn (map (λ it. it.now) (take l.one-index l.all_of)) l.pattern l.component
