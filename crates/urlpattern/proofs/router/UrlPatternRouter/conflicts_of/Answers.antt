use Rattle.std.proofs.Common.{◌∙◌, List, ap, map, subst, sym}
use Rattle.std.specs.Prelude.{All}
use Rattle.urlpattern.specs.Conflicts.{AreUnreached}
use Rattle.urlpattern.specs.Contending.{AreContentions}
use Rattle.urlpattern_compare.specs.CommonTexts.{AreAutomata}
use Rattle.urlpattern_compare.specs.declared.common_texts.PatternAutomata.{PatternAutomata}
use Rattle.urlpattern.proofs.router.UrlPatternRouter.conflicts_of.Goals as goal

pub unreached_routes-requires : goal.unreached_routes-requires
unreached_routes-requires g c =
    let are = ap (map (λ it. it.now)) c.deref.ensures.value ∙ c.in_ok-all.ensures in
    subst (λ (them : List PatternAutomata). All AreAutomata them) (sym are) c.requires

pub contending-requires : goal.contending-requires
contending-requires g c =
    let are = ap (map (λ it. it.now)) c.deref-2.ensures.value ∙ c.in_ok-all.ensures in
    subst (λ (them : List PatternAutomata). All AreAutomata them) (sym are) c.requires

pub returns : goal.returns
returns g c =
    let are = ap (map (λ it. it.now)) c.deref.ensures.value ∙ c.in_ok-all.ensures in
    let also = ap (map (λ it. it.now)) c.deref-2.ensures.value ∙ c.in_ok-all.ensures in
    record {
      unreached = subst (λ (them : List PatternAutomata). AreUnreached c.args.limits c.args.self.now.routes them c.in_ok-unreached.unreached.items) are c.in_ok-unreached.ensures;
      contending = (
        c.in_ok-pairs.pairs.items,
        subst (λ (them : List PatternAutomata). AreContentions c.args.limits them c.in_ok-pairs.pairs.items) also c.in_ok-pairs.ensures,
        c.in_ok-contending.ensures,
      );
    }
