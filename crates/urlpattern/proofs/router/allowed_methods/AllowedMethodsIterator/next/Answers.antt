use Rattle.std.proofs.Common.{◌<◌, arith, length}
use Rattle.urlpattern.proofs.router.allowed_methods.AllowedMethodsIterator.next.Goals as goal

pub returns-in-Err-clause-goes : goal.returns-in-Err-clause-goes
returns-in-Err-clause-goes g c =
    let left : c.args.self.now.from < length c.args.self.now.routes.now = c.in-Err.ensures.left in
    record { on = λ _. (tt, tt, omega (arith, left, c.len-len.ensures)); keeps = tt; rests = λ _. tt }
