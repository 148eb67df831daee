use Rattle.std.proofs.Common.{ap}
use Rattle.std.specs.Str.{chars}
use Rattle.urlpattern.proofs.ConflictLemmas.{share-any, share-own}
use Rattle.urlpattern.proofs.router.route.Route.shares_method.Goals as goal

pub returns-in-Some : goal.returns-in-Some
returns-in-Some g c =
    share-own c.args.self.now c.args.other.now c.in-Some.own (chars c.deref.result.now) c.takes.result c.in-Some.is (ap chars c.deref.ensures) c.takes.ensures

pub returns-in-None : goal.returns-in-None
returns-in-None g c = share-any c.args.self.now c.args.other.now c.in-None.is
