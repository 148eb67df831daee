use Rattle.std.proofs.Common.{subst}
use Rattle.urlpattern_ffi.specs.TextBuffers.{IsComponentWritten}
use Rattle.urlpattern_c.proofs.exports.urlpattern_component.Goals as goal

pub returns-clause-answer : goal.returns-clause-answer
returns-clause-answer c =
    let written = subst (λ patterns. IsComponentWritten patterns c.args.index c.args.component c.args.buffer.now c.write_component-status.new.buffer c.write_component-status.new.needed c.write_component-status.result)
    c.take-kept.ensures.taken c.write_component-status.ensures in
    (c.write_component-status.result, c.number.ensures, written)
