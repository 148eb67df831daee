use Rattle.std.proofs.Common.{◌∙◌, List, subst, sym}
use Rattle.std.specs.Prelude.{All}
use Rattle.urlpattern.proofs.ListedParts.{all_automata}
use Rattle.urlpattern.specs.Reached.{HaveAllAutomata}
use Rattle.urlpattern_compare.specs.CommonTexts.{AreAutomata}
use Rattle.urlpattern.specs.Contending.{AreContentions}
use Rattle.urlpattern_compare.specs.declared.common_texts.PatternAutomata.{PatternAutomata}
use Rattle.urlpattern_pattern.specs.UrlPatterns.{UrlPattern}
use Rattle.urlpattern.proofs.list.UrlPatternList.contending.Goals as goal

pub contending_of_all-requires : goal.contending_of_all-requires
contending_of_all-requires g c =
    subst (λ (them : List PatternAutomata). All AreAutomata them) (sym c.deref-2.ensures.value)
    (all_automata g.R.RegExp c.deref.result.now c.in_ok-automata.automata.items c.in_ok-automata.ensures.automata)

pub returns-in-Ok-clause-found : goal.returns-in-Ok-clause-found
returns-in-Ok-clause-found g c =
    let all = c.in_ok-automata.automata.items in (
      all,
      subst (λ (patterns : List (UrlPattern g.row.R.Denot)). HaveAllAutomata g.R.RegExp patterns all) (c.deref.ensures.value ∙ c.self.view_is) c.in_ok-automata.ensures.automata,
      subst (λ (them : List PatternAutomata). AreContentions c.args.limits them c.in-Ok.found.items) c.deref-2.ensures.value c.in-Ok.ensures,
    )
