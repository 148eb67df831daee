use Rattle.std.proofs.Common.{[], length, max, unwrap_or, arith}
use Rattle.std.specs.Prelude.{option_copied}
use Rattle.urlpattern_init.proofs.InheritanceLemmas.{answers-own, answers-under}
use Rattle.urlpattern_init.proofs.init.processing.Processing.processed.Goals as goal

pub returns-in-Protocol : goal.returns-in-Protocol
returns-in-Protocol c = rw c.in-Protocol.is (answers-own c.args.self.now.kind.now _ c.args.text.now _ _ c.utf8.text c.process_protocol.ensures)

pub returns-in-Username : goal.returns-in-Username
returns-in-Username c = rw c.in-Username.is (answers-own c.args.self.now.kind.now _ c.args.text.now _ _ c.utf8.text c.process_username.ensures)

pub returns-in-Password : goal.returns-in-Password
returns-in-Password c = rw c.in-Password.is (answers-own c.args.self.now.kind.now _ c.args.text.now _ _ c.utf8.text c.process_password.ensures)

pub returns-in-Hostname : goal.returns-in-Hostname
returns-in-Hostname c = rw c.in-Hostname.is (answers-own c.args.self.now.kind.now _ c.args.text.now _ _ c.utf8.text c.process_hostname.ensures)

pub returns-in-Port : goal.returns-in-Port
returns-in-Port c =
    let text = c.args.text.now in
    let under = unwrap_or (option_copied c.args.protocol) [] in
    rw c.in-Port.is
    (answers-under c.args.self.now.kind.now _ text under (max (length text) (length under)) _ c.utf8.text (omega arith) c.process_port.ensures)

pub returns-in-Search : goal.returns-in-Search
returns-in-Search c = rw c.in-Search.is (answers-own c.args.self.now.kind.now _ c.args.text.now _ _ c.utf8.text c.process_search.ensures)

pub returns-in-Hash : goal.returns-in-Hash
returns-in-Hash c = rw c.in-Hash.is (answers-own c.args.self.now.kind.now _ c.args.text.now _ _ c.utf8.text c.process_hash.ensures)
