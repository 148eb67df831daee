use Rattle.std.proofs.Common.{subst}
use Rattle.urlpattern_ffi.specs.InitMatches.{AreNoTextsOfInit, AreTextsOfInit}
use Rattle.urlpattern_ffi.specs.TextCaptures.{AreFirstCapturesOf}
use Rattle.urlpattern_c.proofs.init_exports.urlpattern_first_captures_of_init.Goals as goal

pub returns-clause-answer : goal.returns-clause-answer
returns-clause-answer c =
    let reported = subst (λ patterns. AreFirstCapturesOf (AreTextsOfInit c.args.json.now) (AreNoTextsOfInit c.args.json.now) patterns c.args.index.now c.first_captures_of_init-status.new.index c.args.buffer.now c.first_captures_of_init-status.new.buffer
    c.args.spans.now c.first_captures_of_init-status.new.spans c.first_captures_of_init-status.new.needed c.first_captures_of_init-status.result)
    c.take-kept.ensures.taken c.first_captures_of_init-status.ensures in
    (c.first_captures_of_init-status.result, c.number.ensures, reported)
