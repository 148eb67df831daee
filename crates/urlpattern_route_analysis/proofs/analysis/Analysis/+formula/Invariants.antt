use Rattle.std.proofs.Common.{take}
use Rattle.urlpattern_conditions.specs.ConditionViews.{conditions_view}
use Rattle.urlpattern_route_analysis.specs.Formulas.{formula_views}
use Rattle.urlpattern_route_analysis.specs.Making.{Keeps, FormulatesEach}
use Rattle.urlpattern_route_analysis.proofs.analysis.Analysis.+formula.Given as goal

abbrev pub invariant-each-loop-condition : goal.invariant-each-loop-condition
invariant-each-loop-condition g l = record {
  kept : Keeps l.initial.self l.self;
  made : FormulatesEach g.R.RegExp l.initial.self.patterns.items l.self.patterns.items (conditions_view (take l.condition-index l.condition-items)) l.is_opposite (formula_views l.formulas.items);
}
