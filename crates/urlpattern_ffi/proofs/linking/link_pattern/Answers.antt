use Rattle.urlpattern_ffi.proofs.WrittenLinkLemmas.{link_written, reason_written}
use Rattle.urlpattern_ffi.proofs.linking.link_pattern.Goals as goal

pub returns-in-Ok : goal.returns-in-Ok
returns-in-Ok c =
    link_written c.args.pattern.now c.args.text.now c.args.given.now c.args.buffer.now c.write.new.buffer c.write.new.needed
    c.in-Ok.url c.as_str.result.now c.write.result c.in-Ok.ensures.linked c.as_str.ensures.value c.write.ensures.needed c.write.ensures.written

pub returns-in-Err-NoLink : goal.returns-in-Err-NoLink
returns-in-Err-NoLink c =
    reason_written c.args.pattern.now c.args.text.now c.args.given.now c.args.buffer.now c.write_reason.new.buffer c.write_reason.new.needed
    c.in-Err-NoLink.reason c.write_reason.result (rw c.in-Err-NoLink.field-0-is at c.in-Err-NoLink.ensures.refused) c.write_reason.ensures
