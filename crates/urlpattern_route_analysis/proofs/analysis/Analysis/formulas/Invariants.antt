use Rattle.std.proofs.Common.{take}
use Rattle.urlpattern_route_analysis.specs.Formulas.{formula_views}
use Rattle.urlpattern_route_analysis.specs.Making.{Keeps, FormulatesTable}
use Rattle.urlpattern_route_analysis.proofs.analysis.Analysis.formulas.Given as goal

abbrev pub invariant-loop-rule : goal.invariant-loop-rule
invariant-loop-rule g l = record {
  kept : Keeps l.initial.self l.self;
  made : FormulatesTable g.R.RegExp l.initial.self.patterns.items l.self.patterns.items (take l.rule-index l.rule-items) (formula_views l.formulas.items);
}
