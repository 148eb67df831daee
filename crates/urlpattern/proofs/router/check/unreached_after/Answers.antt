use Rattle.std.proofs.Common.{◌∙◌, List, ap, map, subst, sym}
use Rattle.std.proofs.lemmas.Result.{IfOk-weaker}
use Rattle.std.specs.Prelude.{All}
use Rattle.urlpattern.specs.Conflicts.{IsUnreached, Reports}
use Rattle.urlpattern_compare.proofs.TogetherLemmas.{all_each, some_map}
use Rattle.urlpattern_compare.specs.CommonTexts.{AreAutomata}
use Rattle.urlpattern_compare.specs.CoveringTogether.{at_each}
use Rattle.urlpattern_compare.specs.Reaching.{IsReach}
use Rattle.urlpattern_compare.specs.declared.common_texts.PatternAutomata.{PatternAutomata}
use Rattle.urlpattern.proofs.router.check.unreached_after.Goals as goal

pub reach_of-requires-clause-earlier : goal.reach_of-requires-clause-earlier
reach_of-requires-clause-earlier c =
    let patterns = c.args.all.now in
    let are = ap (map (λ it. it.now)) c.deref.ensures.value ∙ some_map (λ it. it.now) patterns c.in_ok-before.before.items 0 c.args.earlier.now c.in_ok-before.ensures in
    subst (λ (them : List PatternAutomata). All AreAutomata them) (sym are) (all_each AreAutomata (map (λ it. it.now) patterns) c.args.earlier.now c.requires.all)

pub returns : goal.returns
returns c =
    let patterns = c.args.all.now in
    let all = map (λ it. it.now) patterns in
    let earlier = c.args.earlier.now in
    let reach = c.in_ok-reach.reach in
    let are = ap (map (λ it. it.now)) c.deref.ensures.value ∙ some_map (λ it. it.now) patterns c.in_ok-before.before.items 0 earlier c.in_ok-before.ensures in
    let is : IsReach c.args.limits (at_each all earlier) c.args.asked.now reach = subst (λ (them : List PatternAutomata). IsReach c.args.limits them c.args.asked.now reach) are c.in_ok-reach.ensures in
    IfOk-weaker c.reported.result (Reports earlier reach) (IsUnreached c.args.limits all earlier c.args.asked.now) (λ found says. (reach, is, says)) c.reported.ensures
