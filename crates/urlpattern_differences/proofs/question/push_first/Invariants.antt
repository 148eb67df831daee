use Rattle.std.proofs.Common.{◌≡◌, ◌++◌, map, take}
use Rattle.urlpattern_differences.proofs.question.push_first.Given as goal

abbrev pub invariant-loop-index : goal.invariant-loop-index
invariant-loop-index l = map (λ it. it.now) l.all.items ≡ map (λ it. it.now) l.initial.all.items ++ take l.index l.patterns
