use Rattle.std.proofs.Common.{List, subst, sym}
use Rattle.urlpat_routes.proofs.RouteLemmas.{of_routes, still_within}
use Rattle.urlpat_routes.proofs.comparing.compared.Goals as goal
use Rattle.urlpattern_route_analysis.specs.CasePatterns.{AreWithin}
use Rattle.urlpattern_route_analysis.specs.Deciding.{AreDecisions}
use Rattle.urlpattern_route_analysis.specs.Formulas.{formula_views}
use Rattle.urlpattern_route_analysis.specs.Making.{FormulatesTable}
use Rattle.urlpattern_route_analysis.specs.declared.formula.Formula.{Formula}

pub decisions-requires-clause-ones : goal.decisions-requires-clause-ones
decisions-requires-clause-ones g c =
    subst (λ (them : List Formula). AreWithin c.formulas-2.new.self.patterns.items (formula_views them)) (sym c.deref.ensures.value)
    (still_within c.formulas.new.self c.formulas-2.new.self (formula_views c.in_ok-ones.ones.items) c.in_ok-others.ensures.kept c.in_ok-ones.ensures.within)

pub returns-clause-are : goal.returns-clause-are
returns-clause-are g c = record {
  analysis = c.formulas-2.new.self;
  of_routes = of_routes c.route_attributes-attributes.result c.in_ok-analysis.analysis c.formulas.new.self c.formulas-2.new.self c.route_attributes-attributes.ensures c.in_ok-analysis.ensures.empty c.in_ok-ones.ensures.kept c.in_ok-others.ensures.kept
      (c.in_ok-others.ensures.ready (c.in_ok-ones.ensures.ready c.in_ok-analysis.ensures.ready));
  patterns = c.formulas.new.self.patterns.items;
  first = formula_views c.in_ok-ones.ones.items;
  second = formula_views c.in_ok-others.others.items;
  made = subst (λ none. FormulatesTable g.R.RegExp none c.formulas.new.self.patterns.items c.args.old.now.table.rules.items (formula_views c.in_ok-ones.ones.items)) c.in_ok-analysis.ensures.empty.patterns c.in_ok-ones.ensures.made;
  others_made = c.in_ok-others.ensures.made;
  are = subst (λ (them : List Formula). AreDecisions c.formulas-2.new.self (formula_views them) (formula_views c.in_ok-others.others.items) c.in_ok-found.found) c.deref.ensures.value
      (subst (λ (them : List Formula). AreDecisions c.formulas-2.new.self (formula_views c.deref.result.now) (formula_views them) c.in_ok-found.found) c.deref-2.ensures.value c.in_ok-found.ensures);
}
