use Rattle.std.proofs.Common.{◌≡◌, false, map, take}
use Rattle.std.specs.Prelude.{All}
use Rattle.urlpattern_route_analysis.specs.Cases.{literal_views}
use Rattle.urlpattern_route_analysis.specs.Naming.{allows}
use Rattle.urlpattern_route_analysis.proofs.names.name_of.Given as goal

-- The literals allow none of the names so far.
abbrev pub invariant-loop-name : goal.invariant-loop-name
invariant-loop-name l = All (λ name. allows (literal_views l.literals) l.index name ≡ false) (take l.name-index (map (λ own. own.now) l.name-items))
