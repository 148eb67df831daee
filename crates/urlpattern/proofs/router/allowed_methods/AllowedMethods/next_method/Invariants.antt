use Rattle.std.proofs.Common.{◌-◌, ◌≤◌, length}
use Rattle.urlpattern.specs.Routes.{NoneAddsMethod, allowed_left}
use Rattle.urlpattern.proofs.router.allowed_methods.AllowedMethods.next_method.Given as goal

-- No route before `from` adds a method.
abbrev pub invariant-loop-from : goal.invariant-loop-from
invariant-loop-from g l = (l.self.from ≤ l.from) × NoneAddsMethod g.R.RegExp.answer (allowed_left l.self) l.from

abbrev pub decreases-loop-from : goal.decreases-loop-from
decreases-loop-from g l = length l.self.routes.now - l.from
