use Rattle.std.proofs.Common.{◌≡◌, ◌∙◌, ◌+◌, List, ap, arith, length, map, refl, subst, sym}
use Rattle.std.proofs.lemmas.List.{length-map}
use Rattle.std.proofs.lemmas.List.Elements.{All-take}
use Rattle.std.proofs.lemmas.Option.{get_or_from_slice_get, slice_get-map, slice_get_read, slice_get_within}
use Rattle.std.specs.List.{All, take-map}
use Rattle.std.specs.Prelude.{option_map}
use Rattle.urlpattern_compare.proofs.ReachLemmas.{AreReachedBelow, all_reached, one_reached}
use Rattle.urlpattern_compare.specs.CommonTexts.{AreAutomata}
use Rattle.urlpattern_compare.specs.Reaching.{IsReach}
use Rattle.urlpattern_compare.specs.declared.common_texts.PatternAutomata.{PatternAutomata}
use Rattle.urlpattern_compare.proofs.reaching.reach_of_each.Goals as goal

pub reach_of-requires-clause-earlier : goal.reach_of-requires-clause-earlier
reach_of-requires-clause-earlier c =
    let patterns = c.args.patterns.now in
    let i = c.loop-index.index in
    subst (λ (them : List PatternAutomata). All AreAutomata them) (take-map (λ it. it.now) i patterns) (All-take AreAutomata i (map (λ it. it.now) patterns) c.requires)

pub reach_of-requires-clause-asked : goal.reach_of-requires-clause-asked
reach_of-requires-clause-asked c =
    let patterns = c.args.patterns.now in
    let all = map (λ it. it.now) patterns in
    let i = c.loop-index.index in
    let asked = c.index-patterns-index.result in
    let there = slice_get-map (λ it. it.now) patterns i ∙ ap (option_map (λ it. it.now)) (slice_get_read patterns (length patterns) i asked refl c.loop-index-test.true c.index-patterns-index.is) in
    subst AreAutomata (get_or_from_slice_get all i asked.now asked.now there) (c.requires i asked.now (slice_get_within all i asked.now there))

pub loop-index-preserved : goal.loop-index-preserved
loop-index-preserved c =
    let patterns = c.args.patterns.now in
    let all = map (λ it. it.now) patterns in
    let i = c.loop-index.index in
    let asked = c.index-patterns-index.result in
    let reach = c.in_ok-reach.reach in
    let there = slice_get-map (λ it. it.now) patterns i ∙ ap (option_map (λ it. it.now)) (slice_get_read patterns (length patterns) i asked refl c.loop-index-test.true c.index-patterns-index.is) in
    let is = subst (λ (them : List PatternAutomata). IsReach c.args.limits them asked.now reach) (sym (take-map (λ it. it.now) i patterns)) c.in_ok-reach.ensures in
    subst (λ found. AreReachedBelow c.args.limits all found (i + 1)) (sym c.in_ok-push.ensures.items)
    (one_reached c.args.limits all c.loop-index.found.items i asked.now reach there is c.loop-index.invariant)

pub returns : goal.returns
returns c =
    let patterns = c.args.patterns.now in
    let all = map (λ it. it.now) patterns in
    let i = c.loop-index.index in
    let whole : i ≡ length all = omega (arith, length-map patterns (λ it. it.now), c.loop-index-test.false, c.loop-index.auto.index-end) in
    all_reached c.args.limits all c.loop-index.found.items i whole c.loop-index.invariant
