use Rattle.std.proofs.Common.{subst}
use Rattle.urlpattern_ffi.specs.WrittenLinks.{IsLinkReported}
use Rattle.urlpattern_c.proofs.exports.urlpattern_link.Goals as goal

pub returns-clause-answer : goal.returns-clause-answer
returns-clause-answer c =
    let reported = subst (λ patterns. IsLinkReported patterns c.args.index c.args.text.now c.args.given.now c.args.buffer.now c.link-status.new.buffer c.link-status.new.needed c.link-status.result)
    c.take-kept.ensures.taken c.link-status.ensures in
    (c.link-status.result, c.number.ensures, reported)
