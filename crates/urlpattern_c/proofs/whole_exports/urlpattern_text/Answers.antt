use Rattle.std.proofs.Common.{subst}
use Rattle.urlpattern_ffi.specs.WholeTexts.{IsTextReported}
use Rattle.urlpattern_c.proofs.whole_exports.urlpattern_text.Goals as goal

pub returns-clause-answer : goal.returns-clause-answer
returns-clause-answer c =
    let written = subst (λ patterns. IsTextReported patterns c.args.index c.args.buffer.now c.write_text-status.new.buffer c.write_text-status.new.needed c.write_text-status.result)
    c.take-kept.ensures.taken c.write_text-status.ensures in
    (c.write_text-status.result, c.number.ensures, written)
