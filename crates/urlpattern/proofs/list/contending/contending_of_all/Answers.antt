use Rattle.std.proofs.Common.{◌≡◌, ◌∙◌, List, ap, map, subst, sym}
use Rattle.std.specs.Prelude.{All, IfOk}
use Rattle.urlpattern_compare.specs.CommonTexts.{AreAutomata}
use Rattle.urlpattern.specs.Contending.{AreContentions}
use Rattle.urlpattern_compare.specs.declared.common_texts.PatternAutomata.{PatternAutomata}
use Rattle.urlpattern.proofs.list.contending.contending_of_all.Goals as goal

pub contending-requires : goal.contending-requires
contending-requires c =
    let are = ap (map (λ it. it.now)) c.deref.ensures.value ∙ c.in_ok-all.ensures in
    subst (λ (them : List PatternAutomata). All AreAutomata them) (sym are) c.requires

pub returns : goal.returns
returns c =
    let are = ap (map (λ it. it.now)) c.deref.ensures.value ∙ c.in_ok-all.ensures in
    subst (λ (them : List PatternAutomata). IfOk c.contending.result (λ found. AreContentions c.args.limits them found.items)) are c.contending.ensures
