use Rattle.std.proofs.Common.{ap}
use Rattle.std.specs.Prelude.{Some}
use Rattle.std.specs.Str.{chars}
use Rattle.urlpattern.proofs.router.route.copied.Goals as goal

pub returns : goal.returns
returns c = rw c.in-Some.is (ap (λ bytes. Some (chars bytes)) c.in_ok-from_str.ensures.ok)
