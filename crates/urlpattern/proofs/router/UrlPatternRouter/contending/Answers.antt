use Rattle.std.proofs.Common.{List, subst, sym}
use Rattle.std.specs.Prelude.{All}
use Rattle.urlpattern.proofs.ListedParts.{all_automata}
use Rattle.urlpattern.specs.Contending.{AreContentions}
use Rattle.urlpattern_compare.specs.CommonTexts.{AreAutomata}
use Rattle.urlpattern_compare.specs.declared.common_texts.PatternAutomata.{PatternAutomata}
use Rattle.urlpattern.proofs.router.UrlPatternRouter.contending.Goals as goal

pub contending_of_all-requires : goal.contending_of_all-requires
contending_of_all-requires g c =
    subst (λ (them : List PatternAutomata). All AreAutomata them) (sym c.deref.ensures.value) (all_automata g.R.RegExp _ c.in_ok-routes.automata.items c.in_ok-routes.ensures.found.1)

pub returns-clause-found : goal.returns-clause-found
returns-clause-found g c = (
  c.in_ok-routes.ensures.found.0,
  (
    c.in_ok-routes.automata.items,
    c.in_ok-routes.ensures.found.1,
    subst (λ (them : List PatternAutomata). AreContentions c.args.limits them c.in-Ok.pairs.items) c.deref.ensures.value c.in-Ok.ensures,
  ),
)
