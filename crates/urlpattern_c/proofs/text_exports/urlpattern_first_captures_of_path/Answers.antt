use Rattle.std.proofs.Common.{subst}
use Rattle.urlpattern_ffi.specs.PassedTexts.{AreTextsOfPath, IsNoPath}
use Rattle.urlpattern_ffi.specs.TextCaptures.{AreFirstCapturesOf}
use Rattle.urlpattern_c.proofs.text_exports.urlpattern_first_captures_of_path.Goals as goal

pub returns-clause-answer : goal.returns-clause-answer
returns-clause-answer c =
    let reported = subst (λ patterns. AreFirstCapturesOf (AreTextsOfPath c.args.path.now) (IsNoPath c.args.path.now) patterns c.args.index.now c.first_captures_of_path-status.new.index c.args.buffer.now c.first_captures_of_path-status.new.buffer
    c.args.spans.now c.first_captures_of_path-status.new.spans c.first_captures_of_path-status.new.needed c.first_captures_of_path-status.result)
    c.take-kept.ensures.taken c.first_captures_of_path-status.ensures in
    (c.first_captures_of_path-status.result, c.number.ensures, reported)
