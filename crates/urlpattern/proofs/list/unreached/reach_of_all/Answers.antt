use Rattle.std.proofs.Common.{◌≡◌, ◌∙◌, List, ap, map, subst, sym}
use Rattle.std.specs.Prelude.{All, IfOk}
use Rattle.urlpattern_compare.specs.CommonTexts.{AreAutomata}
use Rattle.urlpattern_compare.specs.Reaching.{AreReached}
use Rattle.urlpattern_compare.specs.declared.common_texts.PatternAutomata.{PatternAutomata}
use Rattle.urlpattern.proofs.list.unreached.reach_of_all.Goals as goal

pub reach_of_each-requires : goal.reach_of_each-requires
reach_of_each-requires c =
    let are = ap (map (λ it. it.now)) c.deref.ensures.value ∙ c.in_ok-all.ensures in
    subst (λ (them : List PatternAutomata). All AreAutomata them) (sym are) c.requires

pub returns : goal.returns
returns c =
    let are = ap (map (λ it. it.now)) c.deref.ensures.value ∙ c.in_ok-all.ensures in
    subst (λ (them : List PatternAutomata). IfOk c.reach_of_each.result (λ found. AreReached c.args.limits them found.items)) are c.reach_of_each.ensures
