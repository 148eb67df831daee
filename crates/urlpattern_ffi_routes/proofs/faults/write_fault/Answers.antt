use Rattle.std.proofs.Common.{◌∙◌, ℕ, List, ap, subst, sym}
use Rattle.std.specs.Prelude.{length}
use Rattle.urlpattern_ffi.specs.TextBuffers.{IsWrittenTo}
use Rattle.urlpattern_ffi_routes.specs.KeptRoutes.{boxed_routes}
use Rattle.urlpattern_ffi_routes.proofs.WritingLemmas.{fault_written}
use Rattle.urlpattern_ffi_routes.proofs.faults.write_fault.Goals as goal

pub returns-in-Some : goal.returns-in-Some
returns-in-Some c =
    let it = c.write in
    fault_written (boxed_routes c.args.kept.now).faults c.args.index c.args.buffer.now it.new.buffer it.new.needed c.place_of_fault.result c.in-Some.found.now it.result
    (sym c.in-Some.ensures) c.place_of_fault.ensures (it.ensures.needed ∙ ap length c.reason.ensures)
    (subst (λ (text : List ℕ). IsWrittenTo text c.args.buffer.now it.new.buffer it.result) c.reason.ensures it.ensures.written)
