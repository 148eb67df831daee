use Rattle.std.proofs.Common.{◌≡◌, map, take}
use Rattle.urlpattern_route_analysis.specs.Cases.{literal_views}
use Rattle.urlpattern_route_analysis.specs.CasePatterns.{patterns_in}
use Rattle.urlpattern_route_analysis.proofs.analysis.Analysis.patterns_in.Given as goal

abbrev pub invariant-loop-literal : goal.invariant-loop-literal
invariant-loop-literal l =
    map (λ it. it.now) l.found.items ≡ patterns_in l.self.patterns.items l.holds (take l.literal-index (literal_views l.literals))
