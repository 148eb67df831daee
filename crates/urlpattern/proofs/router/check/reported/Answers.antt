use Rattle.std.proofs.Common.{◌∙◌, ap, refl}
use Rattle.urlpattern_compare.specs.CoveringTogether.{at_each}
use Rattle.urlpattern.proofs.router.check.reported.Goals as goal

pub returns-in_ok-by-in-Never : goal.returns-in_ok-by-in-Never
returns-in_ok-by-in-Never c = rw c.in-Never.is (c.in_ok-by-in-Never.by, refl, c.in_ok-by-in-Never.ensures ∙ ap (at_each c.args.earlier.now) c.deref.ensures.value)
