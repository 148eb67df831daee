use Rattle.std.proofs.Common.{List, subst, sym}
use Rattle.std.specs.Prelude.{All}
use Rattle.urlpattern.proofs.ListedParts.{all_automata}
use Rattle.urlpattern.specs.Conflicts.{AreConflictsOf}
use Rattle.urlpattern.specs.Reached.{HaveAllAutomata}
use Rattle.urlpattern_compare.specs.CommonTexts.{AreAutomata}
use Rattle.urlpattern_compare.specs.declared.common_texts.PatternAutomata.{PatternAutomata}
use Rattle.urlpattern_pattern.specs.UrlPatterns.{UrlPattern}
use Rattle.urlpattern.proofs.router.UrlPatternRouter.check.Goals as goal

pub conflicts_of-requires : goal.conflicts_of-requires
conflicts_of-requires g c =
    subst (λ (them : List PatternAutomata). All AreAutomata them) (sym c.deref.ensures.value)
    (all_automata g.R.RegExp c.patterns-patterns.result.now c.in_ok-automata.automata.items c.in_ok-automata.ensures.automata)

pub returns-in-Ok-clause-found : goal.returns-in-Ok-clause-found
returns-in-Ok-clause-found g c =
    let all = c.in_ok-automata.automata.items in (
      all,
      subst (λ (patterns : List (UrlPattern g.row.R.Denot)). HaveAllAutomata g.R.RegExp patterns all) c.patterns-patterns.ensures c.in_ok-automata.ensures.automata,
      subst (λ (them : List PatternAutomata). AreConflictsOf c.args.limits c.args.self.now.routes them c.in-Ok.found) c.deref.ensures.value c.in-Ok.ensures,
    )
