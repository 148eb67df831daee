use Rattle.std.proofs.Common.{subst}
use Rattle.urlpattern_ffi.specs.TextBuffers.{IsGroupNameWritten}
use Rattle.urlpattern_c.proofs.exports.urlpattern_group_name.Goals as goal

pub returns-clause-answer : goal.returns-clause-answer
returns-clause-answer c =
    let reported = subst (λ patterns. IsGroupNameWritten patterns c.args.index c.args.component c.args.group c.args.buffer.now c.write_group_name-status.new.buffer c.write_group_name-status.new.needed c.write_group_name-status.result)
    c.take-kept.ensures.taken c.write_group_name-status.ensures in
    (c.write_group_name-status.result, c.number.ensures, reported)
