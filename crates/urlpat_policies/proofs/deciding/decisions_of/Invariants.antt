use Rattle.std.proofs.Common.{map, take}
use Rattle.std.specs.List.{AllZip}
use Rattle.urlpat_policies.specs.PolicyCommands.{IsDecided}
use Rattle.urlpat_policies.proofs.deciding.decisions_of.Given as goal

abbrev pub invariant-loop-index : goal.invariant-loop-index
invariant-loop-index g l = AllZip (IsDecided g.R.RegExp l.policy) (take l.index (map (λ url. url.now) l.urls)) l.decisions.items
