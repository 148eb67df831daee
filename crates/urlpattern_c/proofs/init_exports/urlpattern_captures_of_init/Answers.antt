use Rattle.std.proofs.Common.{subst}
use Rattle.urlpattern_ffi.specs.InitMatches.{AreNoTextsOfInit, AreTextsOfInit}
use Rattle.urlpattern_ffi.specs.TextCaptures.{AreCapturesOf}
use Rattle.urlpattern_c.proofs.init_exports.urlpattern_captures_of_init.Goals as goal

pub returns-clause-answer : goal.returns-clause-answer
returns-clause-answer c =
    let reported = subst (λ patterns. AreCapturesOf (AreTextsOfInit c.args.json.now) (AreNoTextsOfInit c.args.json.now) patterns c.args.index c.args.buffer.now c.captures_of_init-status.new.buffer
    c.args.spans.now c.captures_of_init-status.new.spans c.captures_of_init-status.new.needed c.captures_of_init-status.result)
    c.take-kept.ensures.taken c.captures_of_init-status.ensures in
    (c.captures_of_init-status.result, c.number.ensures, reported)
