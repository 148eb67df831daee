use Rattle.std.proofs.Common.{arith}
use Rattle.urlpattern_route_analysis.specs.Formulas.{formula_views}
use Rattle.urlpat_routes.proofs.RouteLemmas.{uses_more}
use Rattle.urlpat_routes.proofs.rule_use.uses_by.Goals as goal

pub loop-index-preserved : goal.loop-index-preserved
loop-index-preserved c = (
  omega (arith, c.loop-index-test.true),
  uses_more c.args.analysis.now (formula_views c.args.formulas.now) c.args.reach.now c.loop-index.index c.loop-index.uses.items c.push.new.self.items c.in_ok-one.one c.in_ok-push.ensures.items c.loop-index.invariant.1 c.in_ok-one.ensures.is,
)
