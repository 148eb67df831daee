use Rattle.std.proofs.Common.{◌≤◌, length}
use Rattle.urlpattern_route_analysis.specs.Formulas.{formula_views}
use Rattle.urlpat_routes.proofs.RouteLemmas.{AreUsesTo}
use Rattle.urlpat_routes.proofs.rule_use.uses_by.Given as goal

abbrev pub invariant-loop-index : goal.invariant-loop-index
invariant-loop-index l = (l.index ≤ length l.formulas) × AreUsesTo l.analysis (formula_views l.formulas) l.reach l.index l.uses.items
