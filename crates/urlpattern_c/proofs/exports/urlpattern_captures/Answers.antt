use Rattle.std.proofs.Common.{subst}
use Rattle.urlpattern_ffi.specs.GroupSpans.{AreCapturesReported}
use Rattle.urlpattern_c.proofs.exports.urlpattern_captures.Goals as goal

pub returns-clause-answer : goal.returns-clause-answer
returns-clause-answer c =
    let reported = subst (λ patterns. AreCapturesReported patterns c.args.index c.args.url.now c.args.base.now c.args.buffer.now c.captures-status.new.buffer c.args.spans.now c.captures-status.new.spans c.captures-status.new.needed c.captures-status.result)
    c.take-kept.ensures.taken c.captures-status.ensures in
    (c.captures-status.result, c.number.ensures, reported)
