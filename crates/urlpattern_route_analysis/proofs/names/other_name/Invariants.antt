use Rattle.std.proofs.Common.{string_bytes, take}
use Rattle.urlpattern_route_analysis.proofs.NamingLemmas.{IsLongerSoFar}
use Rattle.urlpattern_route_analysis.specs.Cases.{literal_views}
use Rattle.urlpattern_route_analysis.proofs.names.other_name.Given as goal

-- Each literal so far of the attribute says that it does not have a name, which is not longer than
-- the text.
abbrev pub invariant-loop-literal : goal.invariant-loop-literal
invariant-loop-literal l = IsLongerSoFar l.index (string_bytes l.other) (take l.literal-index (literal_views l.literals))
