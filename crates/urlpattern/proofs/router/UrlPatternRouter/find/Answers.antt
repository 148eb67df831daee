use Rattle.std.proofs.Common.{arith, length, ◌≤◌}
use Rattle.std.specs.Str.{chars}
use Rattle.urlpattern.proofs.RouteLemmas.{unnamed-more, unnamed-shorter}
use Rattle.urlpattern.proofs.router.UrlPatternRouter.find.Goals as goal

pub returns-in-Some : goal.returns-in-Some
returns-in-Some g c = (c.in-Some.ensures.0, c.in-Some.ensures.1, c.loop-index.invariant)

pub loop-index-preserved : goal.loop-index-preserved
loop-index-preserved g c =
    unnamed-more c.args.self.now.routes (chars c.args.name.now) c.loop-index.index c.loop-index.invariant (rw c.in_default.is at c.named_at.ensures)

pub returns : goal.returns
returns g c =
    let beyond : length c.args.self.now.routes ≤ c.loop-index.index = omega (arith, c.loop-index-test.false, c.len-len.ensures) in
    unnamed-shorter c.args.self.now.routes (chars c.args.name.now) (length c.args.self.now.routes) c.loop-index.index beyond c.loop-index.invariant
