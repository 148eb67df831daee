-- None of the rules so far is one of the rest.
use Rattle.std.proofs.Common.{All, take}
use Rattle.std.specs.Prelude.{Contains}
use Rattle.urlpat_tables.proofs.endless.leads_among.Given as goal

abbrev pub invariant-loop-next : goal.invariant-loop-next
invariant-loop-next l = All (λ next. ¬ Contains l.rest next) (take l.next-index l.others)
