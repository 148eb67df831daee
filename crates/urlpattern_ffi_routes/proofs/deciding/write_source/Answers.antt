use Rattle.std.proofs.Common.{◌∙◌, ℕ, List, ap, subst, sym}
use Rattle.std.specs.Prelude.{length}
use Rattle.urlpattern_ffi.specs.TextBuffers.{IsWrittenTo}
use Rattle.urlpattern_ffi_routes.specs.KeptRoutes.{boxed_routes}
use Rattle.urlpattern_ffi_routes.proofs.WritingLemmas.{source_written}
use Rattle.urlpattern_ffi_routes.proofs.deciding.write_source.Goals as goal

pub returns-in-Some : goal.returns-in-Some
returns-in-Some c =
    let it = c.write in
    source_written (boxed_routes c.args.kept.now).rules c.args.index c.source_number.result c.args.buffer.now it.new.buffer it.new.needed c.in-Some.rule.now it.result
    (sym c.in-Some.ensures) c.source_number.ensures (it.ensures.needed ∙ ap length c.as_str.ensures)
    (subst (λ (text : List ℕ). IsWrittenTo text c.args.buffer.now it.new.buffer it.result) c.as_str.ensures it.ensures.written)
