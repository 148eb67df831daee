use Rattle.std.proofs.Common.{List, subst, sym}
use Rattle.std.specs.Prelude.{All}
use Rattle.urlpattern.proofs.ListedParts.{all_automata}
use Rattle.urlpattern_compare.specs.CommonTexts.{AreAutomata}
use Rattle.urlpattern_compare.specs.Reaching.{AreReached}
use Rattle.urlpattern_compare.specs.declared.common_texts.PatternAutomata.{PatternAutomata}
use Rattle.urlpattern.proofs.router.UrlPatternRouter.reach_of_each.Goals as goal

pub reach_of_all-requires : goal.reach_of_all-requires
reach_of_all-requires g c =
    subst (λ (them : List PatternAutomata). All AreAutomata them) (sym c.deref.ensures.value) (all_automata g.R.RegExp _ c.in_ok-routes.automata.items c.in_ok-routes.ensures.found.1)

pub returns-clause-found : goal.returns-clause-found
returns-clause-found g c = (
  c.in_ok-routes.ensures.found.0,
  (
    c.in_ok-routes.automata.items,
    c.in_ok-routes.ensures.found.1,
    subst (λ (them : List PatternAutomata). AreReached c.args.limits them c.in-Ok.reaches.items) c.deref.ensures.value c.in-Ok.ensures,
  ),
)
