use Rattle.std.proofs.Common.{subst}
use Rattle.urlpattern_ffi.specs.PassedTexts.{AreNoTextsIn, AreTextsIn}
use Rattle.urlpattern_ffi.specs.TextCaptures.{AreFirstCapturesOf}
use Rattle.urlpattern_c.proofs.text_exports.urlpattern_first_captures_of_texts.Goals as goal

pub returns-clause-answer : goal.returns-clause-answer
returns-clause-answer c =
    let reported = subst (λ patterns. AreFirstCapturesOf (AreTextsIn c.args.text.now c.args.parts.now) (AreNoTextsIn c.args.text.now c.args.parts.now) patterns c.args.index.now c.first_captures_of_texts-status.new.index c.args.buffer.now c.first_captures_of_texts-status.new.buffer
    c.args.spans.now c.first_captures_of_texts-status.new.spans c.first_captures_of_texts-status.new.needed c.first_captures_of_texts-status.result)
    c.take-kept.ensures.taken c.first_captures_of_texts-status.ensures in
    (c.first_captures_of_texts-status.result, c.number.ensures, reported)
