use Rattle.std.proofs.Common.{sym}
use Rattle.urlpattern_ffi_routes.specs.KeptRoutes.{boxed_routes}
use Rattle.urlpattern_ffi_routes.proofs.WritingLemmas.{text_written}
use Rattle.urlpattern_ffi_routes.proofs.faults.write_text_at_fault.Goals as goal

pub returns-in-Some-text_at_fault : goal.returns-in-Some-text_at_fault
returns-in-Some-text_at_fault c =
    let it = c.write in
    text_written (boxed_routes c.args.kept.now).faults c.args.index c.args.buffer.now it.new.buffer it.new.needed c.in-Some.found.now c.in-Some-text_at_fault.text.now it.result
    (sym c.in-Some.ensures) (sym c.in-Some-text_at_fault.ensures) it.ensures.needed it.ensures.written
