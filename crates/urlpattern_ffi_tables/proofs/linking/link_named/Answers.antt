use Rattle.urlpattern_ffi_tables.proofs.NamedLinkLemmas.{link_written, reason_written}
use Rattle.urlpattern_ffi_tables.proofs.linking.link_named.Goals as goal

pub returns-in-Ok : goal.returns-in-Ok
returns-in-Ok c =
    link_written c.args.router.now c.args.name.now c.args.text.now c.args.given.now c.args.buffer.now c.write_link.new.buffer c.write_link.new.needed c.in-Ok.link c.write_link.result c.in-Ok.ensures.linked c.write_link.ensures

pub returns-in-Err-NoLink : goal.returns-in-Err-NoLink
returns-in-Err-NoLink c =
    reason_written c.args.router.now c.args.name.now c.args.text.now c.args.given.now c.args.buffer.now c.write_reason.new.buffer c.write_reason.new.needed
    c.in-Err-NoLink.reason c.write_reason.result (rw c.in-Err-NoLink.field-0-is at c.in-Err-NoLink.ensures.refused) c.write_reason.ensures
