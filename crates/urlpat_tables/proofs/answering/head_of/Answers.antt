use Rattle.urlpat_tables.proofs.FirstRuleLemmas.{head-left-out, head-said}
use Rattle.urlpat_tables.proofs.answering.head_of.Goals as goal

pub returns-then-not-headed : goal.returns-then-not-headed
returns-then-not-headed g c = head-left-out (g.A.Reply.Heads c.args.reply.now) c.args.headed c.args.header.now c.new-head.result.items c.if-not-headed.true c.new-head.ensures.items

pub returns : goal.returns
returns g c =
    head-said (g.A.Reply.Heads c.args.reply.now) c.args.headed c.args.header.now c.new-head.result.items c.head.new.written.items c.if-not-headed.false c.new-head.ensures.items
    c.in_ok-head.ensures
