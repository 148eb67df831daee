use Rattle.std.proofs.Common.{map, string_bytes}
use Rattle.urlpattern_route_analysis.proofs.NamingLemmas.{AreNamesSoFar}
use Rattle.urlpattern_route_analysis.specs.Cases.{literal_views}
use Rattle.urlpattern_route_analysis.proofs.names.names_of.Given as goal

-- The attributes so far have names, which the literals allow.
abbrev pub invariant-loop-index : goal.invariant-loop-index
invariant-loop-index l = AreNamesSoFar l.attributes (literal_views l.literals) l.index (map string_bytes l.names.items)
