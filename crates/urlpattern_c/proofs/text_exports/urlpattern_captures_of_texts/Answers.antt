use Rattle.std.proofs.Common.{subst}
use Rattle.urlpattern_ffi.specs.PassedTexts.{AreNoTextsIn, AreTextsIn}
use Rattle.urlpattern_ffi.specs.TextCaptures.{AreCapturesOf}
use Rattle.urlpattern_c.proofs.text_exports.urlpattern_captures_of_texts.Goals as goal

pub returns-clause-answer : goal.returns-clause-answer
returns-clause-answer c =
    let reported = subst (λ patterns. AreCapturesOf (AreTextsIn c.args.text.now c.args.parts.now) (AreNoTextsIn c.args.text.now c.args.parts.now) patterns c.args.index c.args.buffer.now c.captures_of_texts-status.new.buffer
    c.args.spans.now c.captures_of_texts-status.new.spans c.captures_of_texts-status.new.needed c.captures_of_texts-status.result)
    c.take-kept.ensures.taken c.captures_of_texts-status.ensures in
    (c.captures_of_texts-status.result, c.number.ensures, reported)
