use Rattle.std.proofs.Common.{subst}
use Rattle.urlpattern_ffi.specs.WrittenTexts.{IsTextGenerated}
use Rattle.urlpattern_c.proofs.whole_exports.urlpattern_generate.Goals as goal

pub returns-clause-answer : goal.returns-clause-answer
returns-clause-answer c =
    let written = subst (λ patterns. IsTextGenerated patterns c.args.index c.args.component c.args.text.now c.args.given.now c.args.buffer.now c.generate-status.new.buffer c.generate-status.new.needed c.generate-status.result)
    c.take-kept.ensures.taken c.generate-status.ensures in
    (c.generate-status.result, c.number.ensures, written)
