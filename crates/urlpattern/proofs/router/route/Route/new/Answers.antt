use Rattle.std.proofs.Common.{ap, refl}
use Rattle.std.specs.Prelude.{Some}
use Rattle.std.specs.Str.{chars}
use Rattle.urlpattern.proofs.router.route.Route.new.Goals as goal

pub returns : goal.returns
returns g c = record { has_name = c.in_ok-name.ensures; has_method = ap (λ bytes. Some (chars bytes)) c.in_ok-method.ensures.ok; has_value = refl }
