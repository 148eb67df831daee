use Rattle.std.proofs.Common.{List, [], ◌∷◌, subst, sym, take}
use Rattle.std.proofs.lemmas.List.{take-map}
use Rattle.urlpat_routes.proofs.RouteLemmas.{first_within, one_within, view_at}
use Rattle.urlpat_routes.proofs.rule_use.takers_of.Goals as goal
use Rattle.urlpattern_route_analysis.specs.Deciding.{AreDecisions}
use Rattle.urlpattern_route_analysis.specs.Formulas.{FormulaView, formula_view, formula_views}
use Rattle.urlpattern_route_analysis.specs.declared.formula.Formula.{Formula}

pub decisions-requires-clause-ones : goal.decisions-requires-clause-ones
decisions-requires-clause-ones c = first_within c.args.analysis.now.patterns.items c.args.formulas.now c.args.index c.requires.within

pub decisions-requires-clause-others : goal.decisions-requires-clause-others
decisions-requires-clause-others c =
    one_within c.args.analysis.now.patterns.items c.args.formulas.now c.from_ref-one.result.now c.args.index c.index-formulas-index.result c.requires.index c.index-formulas-index.is c.from_ref-one.ensures.value c.requires.within

pub returns : goal.returns
returns c =
    let one = formula_view c.index-formulas-index.result in (
      one,
      view_at c.args.formulas.now c.args.index c.index-formulas-index.result c.requires.index c.index-formulas-index.is,
      subst (λ (them : List FormulaView). AreDecisions c.args.analysis.now them (one ∷ []) c.in_ok-found.found) (sym (take-map formula_view c.args.index c.args.formulas.now))
          (subst (λ (them : List Formula). AreDecisions c.args.analysis.now (formula_views (take c.args.index c.args.formulas.now)) (formula_views them) c.in_ok-found.found) c.from_ref-one.ensures.value c.in_ok-found.ensures),
    )
