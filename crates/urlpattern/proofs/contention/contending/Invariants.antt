use Rattle.std.proofs.Common.{◌<◌, map}
use Rattle.urlpattern.proofs.ContentionLemmas.{AreContentionsBelow}
use Rattle.urlpattern.proofs.contention.contending.Given as goal

abbrev pub invariant-loop-first : goal.invariant-loop-first
invariant-loop-first l = AreContentionsBelow l.limits (map (λ it. it.now) l.patterns) l.first 0 l.found.items

abbrev pub invariant-loop-second : goal.invariant-loop-second
invariant-loop-second l = record {
  found : AreContentionsBelow l.limits (map (λ it. it.now) l.patterns) l.first l.second l.found.items;
  order : l.first < l.second;
}
