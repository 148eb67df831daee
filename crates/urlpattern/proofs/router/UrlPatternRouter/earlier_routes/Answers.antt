use Rattle.std.proofs.Common.{◌≡◌, ℕ, List, arith, subst, sym}
use Rattle.std.specs.List.{range_with_len}
use Rattle.urlpattern.proofs.ConflictLemmas.{kept-more, range-more}
use Rattle.urlpattern.specs.Conflicts.{AreKept, OfRoutes, TakesAllOf}
use Rattle.urlpattern.proofs.router.UrlPatternRouter.earlier_routes.Goals as goal

pub loop-before-init : goal.loop-before-init
loop-before-init g c = c.new-earlier.ensures.items

pub loop-before-preserved : goal.loop-before-preserved
loop-before-preserved g c =
    let before = c.loop-before.before in
    let Is : ℕ → Type 0 = λ before. OfRoutes c.args.self.now.routes TakesAllOf before c.args.index in
    subst (λ (values : List ℕ). AreKept Is values c.push_if.new.list.items) (sym (range-more before))
    (kept-more Is (range_with_len 0 before) c.loop-before.earlier.items c.push_if.new.list.items before c.takes_all_at-takes_all.result c.takes_all_at-takes_all.ensures c.in_ok-push_if.ensures c.loop-before.invariant)

pub returns : goal.returns
returns g c =
    let last : c.loop-before.before ≡ c.args.index = omega (arith, c.loop-before-test.false, c.loop-before.auto.before-end) in
    subst (λ (end : ℕ). AreKept (λ before. OfRoutes c.args.self.now.routes TakesAllOf before c.args.index) (range_with_len 0 end) c.loop-before.earlier.items) last c.loop-before.invariant
