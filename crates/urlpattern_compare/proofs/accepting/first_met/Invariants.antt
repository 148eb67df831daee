use Rattle.std.proofs.Common.{take}
use Rattle.std.specs.List.{All}
use Rattle.urlpattern_compare.specs.Candidates.{MeetsEach, text_at}
use Rattle.urlpattern_compare.proofs.accepting.first_met.Given as goal

abbrev pub invariant-loop-index : goal.invariant-loop-index
invariant-loop-index l = All (λ them. ¬ MeetsEach them.items (text_at l.texts)) (take l.index l.lists)
