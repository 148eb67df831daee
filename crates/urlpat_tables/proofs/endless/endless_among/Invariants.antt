-- The rules that are taken away are in an order.
use Rattle.std.proofs.Common.{map}
use Rattle.urlpat_tables.proofs.EndlessLemmas.{AreTakenAway}
use Rattle.urlpat_tables.proofs.endless.endless_among.Given as goal

abbrev pub invariant-loop-round : goal.invariant-loop-round
invariant-loop-round l = AreTakenAway (map (λ it. it.items) l.leads) l.rest.items l.round
