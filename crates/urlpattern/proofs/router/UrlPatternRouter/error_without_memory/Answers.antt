use Rattle.std.proofs.Common.{arith, length, sym, ◌<◌, ◌≡◌, ◌∙◌}
use Rattle.std.proofs.lemmas.Bool.{false≢true}
use Rattle.std.proofs.lemmas.Option.{slice_get_within}
use Rattle.std.specs.Str.{chars}
use Rattle.urlpattern.specs.RouteReach.{LacksPartsAt}
use Rattle.urlpattern.specs.Routes.{Takes}
use borrow.Author.Count
use Rattle.urlpattern.proofs.router.UrlPatternRouter.error_without_memory.Goals as goal

pub loop-index-init : goal.loop-index-init
loop-index-init g c = λ k less. absurd (omega (arith, less))

pub loop-index-preserved : goal.loop-index-preserved
loop-index-preserved g c =
    Count.below_more (λ k. ¬ LacksPartsAt c.args.self.now.routes (Takes (chars c.args.method.now)) k) c.loop-index.index c.loop-index.invariant
    (λ lacks. false≢true (sym c.if-lacks_parts_at.false ∙ c.lacks_parts_at.ensures.1 lacks))

pub returns : goal.returns
returns g c = λ index lacks.
    let last : c.loop-index.index ≡ length c.args.self.now.routes = omega (arith, c.loop-index-test.false, c.loop-index.auto.index-end, c.len-index-end.ensures) in
    let within = slice_get_within c.args.self.now.routes index lacks.0 lacks.1 in
    c.loop-index.invariant index (omega (arith, within, last)) lacks
