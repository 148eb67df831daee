use Rattle.std.proofs.Common.{ap}
use Rattle.std.specs.Str.{chars}
use Rattle.urlpattern.proofs.ConflictLemmas.{all-of_any, all-of_own}
use Rattle.urlpattern.proofs.router.route.Route.takes_all_of.Goals as goal

pub returns-in-Some : goal.returns-in-Some
returns-in-Some g c =
    all-of_own c.args.self.now c.args.other.now c.in-Some.own (chars c.deref.result.now) c.has_method.result c.in-Some.is (ap chars c.deref.ensures) c.has_method.ensures

pub returns-in-None : goal.returns-in-None
returns-in-None g c = all-of_any c.args.self.now c.args.other.now c.in-None.is
