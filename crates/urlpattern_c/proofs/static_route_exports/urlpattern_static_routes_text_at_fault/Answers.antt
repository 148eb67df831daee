use Rattle.std.proofs.Common.{subst}
use Rattle.urlpattern_ffi_routes.specs.KeptRoutes.{Routes}
use Rattle.urlpattern_ffi_routes.specs.WrittenFaults.{IsTextAtFaultWritten}
use Rattle.urlpattern_c.proofs.static_route_exports.urlpattern_static_routes_text_at_fault.Goals as goal

pub returns-clause-answer : goal.returns-clause-answer
returns-clause-answer c =
    let it = c.write_text_at_fault-status in
    (it.result, c.number.ensures, subst (λ (routes : Routes). IsTextAtFaultWritten routes.faults c.args.index c.args.buffer.now it.new.buffer it.new.needed it.result) c.take-kept.ensures.taken it.ensures)
