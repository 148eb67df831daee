use Rattle.std.proofs.Common.{◌≤◌, ◌∙◌, List, ap, arith, length, map, refl, subst, sym}
use Rattle.std.proofs.lemmas.List.{length-map}
use Rattle.std.proofs.lemmas.Option.{get_or_from_slice_get, slice_get-map, slice_get_read, slice_get_within}
use Rattle.std.specs.Prelude.{option_map}
use Rattle.urlpattern.proofs.ConflictLemmas.{AreUnreachedBelow, all-unreached, none-unreached, route-more}
use Rattle.urlpattern.specs.Conflicts.{IsUnreached}
use Rattle.urlpattern.specs.declared.router.route_conflicts.UnreachedRoute.{UnreachedRoute}
use Rattle.urlpattern_compare.specs.CommonTexts.{AreAutomata}
use Rattle.urlpattern.proofs.router.UrlPatternRouter.unreached_routes.Goals as goal

pub loop-index-init : goal.loop-index-init
loop-index-init g c =
    let all = map (λ it. it.now) c.args.all.now in
    subst (λ (found : List UnreachedRoute). AreUnreachedBelow c.args.limits c.args.self.now.routes all 0 found) (sym c.new-found.ensures.items) (none-unreached c.args.limits c.args.self.now.routes all)

pub unreached_after-requires-clause-asked : goal.unreached_after-requires-clause-asked
unreached_after-requires-clause-asked g c =
    let patterns = c.args.all.now in
    let all = map (λ it. it.now) patterns in
    let i = c.loop-index.index in
    let asked = c.index-all-index.result in
    let there = slice_get-map (λ it. it.now) patterns i ∙ ap (option_map (λ it. it.now)) (slice_get_read patterns (length patterns) i asked refl c.loop-index-test.true c.index-all-index.is) in
    subst AreAutomata (get_or_from_slice_get all i asked.now asked.now there) (c.requires i asked.now (slice_get_within all i asked.now there))

pub loop-index-preserved : goal.loop-index-preserved
loop-index-preserved g c =
    let patterns = c.args.all.now in
    let all = map (λ it. it.now) patterns in
    let i = c.loop-index.index in
    let asked = c.index-all-index.result in
    let why = c.in_ok-unreached.unreached in
    let earlier = c.in_ok-earlier.earlier.items in
    let there = slice_get-map (λ it. it.now) patterns i ∙ ap (option_map (λ it. it.now)) (slice_get_read patterns (length patterns) i asked refl c.loop-index-test.true c.index-all-index.is) in
    let is = subst (λ indices. IsUnreached c.args.limits all indices asked.now why) c.deref.ensures.value c.in_ok-unreached.ensures in
    route-more c.args.limits c.args.self.now.routes all i c.loop-index.found.items c.push_route.new.found.items asked.now why there (earlier, c.in_ok-earlier.ensures, is) c.in_ok-push_route.ensures c.loop-index.invariant

pub returns : goal.returns
returns g c =
    let patterns = c.args.all.now in
    let all = map (λ it. it.now) patterns in
    let whole : length all ≤ c.loop-index.index = omega (arith, length-map patterns (λ it. it.now), c.loop-index-test.false) in
    all-unreached c.args.limits c.args.self.now.routes all c.loop-index.index c.loop-index.found.items whole c.loop-index.invariant
