use Rattle.std.proofs.Common.{List, [], ◌∷◌, length, subst, sym}
use Rattle.urlpattern_route_analysis.specs.CasePatterns.{AreWithin}
use Rattle.urlpattern_route_analysis.specs.Deciding.{AreDecisions}
use Rattle.urlpattern_route_analysis.specs.Formulas.{FormulaView, formula_views}
use Rattle.urlpattern_route_analysis.specs.Making.{FormulatesTable}
use Rattle.urlpattern_route_analysis.specs.Scopes.{outside_of}
use Rattle.urlpattern_route_analysis.specs.declared.formula.Formula.{Formula}
use Rattle.urlpat_routes.proofs.RouteLemmas.{of_routes, still_within, unused_right}
use Rattle.urlpat_routes.proofs.rule_use.uses_of.Goals as goal
use Rattle.urlpat_routes.specs.RouteUses.{AreUsesBy}

pub decisions-requires-clause-ones : goal.decisions-requires-clause-ones
decisions-requires-clause-ones g c =
    subst (λ (them : List Formula). AreWithin c.outside.new.self.patterns.items (formula_views them)) (sym c.deref.ensures.value)
    (still_within c.formulas.new.self c.outside.new.self (formula_views c.in_ok-formulas.formulas.items) c.in_ok-outside.ensures.kept c.in_ok-formulas.ensures.within)

pub uses_by-requires-clause-within : goal.uses_by-requires-clause-within
uses_by-requires-clause-within g c =
    subst (λ (them : List Formula). AreWithin c.outside.new.self.patterns.items (formula_views them)) (sym c.deref-2.ensures.value)
    (still_within c.formulas.new.self c.outside.new.self (formula_views c.in_ok-formulas.formulas.items) c.in_ok-outside.ensures.kept c.in_ok-formulas.ensures.within)

pub returns-clause-uses : goal.returns-clause-uses
returns-clause-uses g c =
    let formulas = formula_views c.in_ok-formulas.formulas.items in
    let outside = outside_of (length c.formulas.new.self.patterns.items) in
    let reached : AreDecisions c.outside.new.self formulas (outside ∷ []) c.in_ok-reach.reach
    = subst (λ (one : FormulaView). AreDecisions c.outside.new.self formulas (one ∷ []) c.in_ok-reach.reach) c.in_ok-outside.ensures.made
    (subst (λ (them : List Formula). AreDecisions c.outside.new.self (formula_views them) (formula_views (c.in_ok-outside.field-0 ∷ [])) c.in_ok-reach.reach) c.deref.ensures.value c.in_ok-reach.ensures) in
    let used : AreUsesBy c.outside.new.self formulas c.in_ok-reach.reach c.in_ok-uses.uses.items
    = subst (λ (them : List Formula). AreUsesBy c.outside.new.self (formula_views them) c.in_ok-reach.reach c.in_ok-uses.uses.items) c.deref-2.ensures.value c.in_ok-uses.ensures in
    record {
      analysis = c.outside.new.self;
      of_routes = of_routes c.route_attributes-attributes.result c.in_ok-analysis.analysis c.formulas.new.self c.outside.new.self c.route_attributes-attributes.ensures c.in_ok-analysis.ensures.empty c.in_ok-formulas.ensures.kept c.in_ok-outside.ensures.kept (c.in_ok-outside.ensures.ready (c.in_ok-formulas.ensures.ready c.in_ok-analysis.ensures.ready));
      patterns = c.formulas.new.self.patterns.items;
      formulas = formulas;
      made = subst (λ none. FormulatesTable g.R.RegExp none c.formulas.new.self.patterns.items c.args.rules.now.table.rules.items formulas) c.in_ok-analysis.ensures.empty.patterns c.in_ok-formulas.ensures.made;
      scope_added = c.in_ok-outside.ensures.pattern;
      reach = c.in_ok-reach.reach;
      reached = reached;
      uses = used;
      unused = unused_right c.outside.new.self formulas c.in_ok-reach.reach outside reached c.in_ok-uses.uses.items used;
    }
