use Rattle.std.proofs.Common.{subst}
use Rattle.urlpattern_ffi.specs.GroupSpans.{AreFirstCaptures}
use Rattle.urlpattern_c.proofs.exports.urlpattern_first_captures.Goals as goal

pub returns-clause-answer : goal.returns-clause-answer
returns-clause-answer c =
    let reported = subst (λ patterns. AreFirstCaptures patterns c.args.url.now c.args.base.now c.args.index.now c.first_captures-status.new.index c.args.buffer.now c.first_captures-status.new.buffer
    c.args.spans.now c.first_captures-status.new.spans c.first_captures-status.new.needed c.first_captures-status.result)
    c.take-kept.ensures.taken c.first_captures-status.ensures in
    (c.first_captures-status.result, c.number.ensures, reported)
