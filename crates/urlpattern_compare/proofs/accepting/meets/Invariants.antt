use Rattle.std.proofs.Common.{take}
use Rattle.urlpattern_compare.specs.Candidates.{MeetsEach, text_at}
use Rattle.urlpattern_compare.proofs.accepting.meets.Given as goal

abbrev pub invariant-loop-condition : goal.invariant-loop-condition
invariant-loop-condition l = MeetsEach (take l.condition-index l.conditions) (text_at l.texts)
