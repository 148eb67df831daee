use Rattle.std.proofs.Common.{◌-◌}
use Rattle.std.specs.Str.{chars}
use Rattle.urlpattern.specs.Routes.{HasMethodBefore, allowed_left}
use Rattle.urlpattern.proofs.router.allowed_methods.AllowedMethods.is_listed.Given as goal

-- No route before `from` that matches has the method.
abbrev pub invariant-loop-from : goal.invariant-loop-from
invariant-loop-from g l = ¬ HasMethodBefore g.R.RegExp.answer (allowed_left l.self) (chars l.method) l.from

abbrev pub decreases-loop-from : goal.decreases-loop-from
decreases-loop-from g l = l.end - l.from
