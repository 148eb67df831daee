use Rattle.std.proofs.Common.{◌∙◌, List, ap, subst, ℕ}
use Rattle.std.specs.Prelude.{option_copied}
use Rattle.urlpat_matching.specs.Filters.{Filters}
use Rattle.urlpat_tables.proofs.FirstRuleLemmas.{fields-filtered}
use Rattle.urlpat_tables.specs.FirstRules.{IsAnswered, IsHead, first_number}
use Rattle.urlpattern_canonical.specs.BaseUrls.{BaseView, base_view}
use Rattle.urlpat_tables.proofs.answering.answer_by.Goals as goal

pub returns-clause-answers : goal.returns-clause-answers
returns-clause-answers g c = λ answered.
    let (head, heads, goes) = c.write_head.ensures c.if-not-write_head.false in
    let place = c.in-Some.place in
    fields-filtered (g.A.Reply.Heads c.args.reply.now)
    (IsAnswered (g.A.Reply.Matched c.args.reply.now) (g.A.Reply.Leaves c.args.reply.now) c.args.rules.now (base_view (option_copied c.args.asked.base))) c.args.asked c.args.counts
    c.write_answers.result (g.In.Read.remaining c.args.input.now) (g.In.Read.remaining c.place_of.new.input) (g.Out.Write.contents c.args.out.now)
    (g.Out.Write.contents c.write_head.new.out) (g.Out.Write.contents c.write_answers.new.out) place c.place_of.new.header.items head c.first_number-first.result c.in-Some.ensures
    (subst (λ (header : List ℕ). IsHead (g.A.Reply.Heads c.args.reply.now) c.args.asked.headed header head) c.deref.ensures.value heads)
    goes (c.first_number-first.ensures ∙ ap first_number c.deref-2.ensures.value)
    (subst (λ (base : BaseView). Filters (IsAnswered (g.A.Reply.Matched c.args.reply.now) (g.A.Reply.Leaves c.args.reply.now) c.args.rules.now base place) c.args.asked.style c.first_number-first.result c.args.counts
    c.write_answers.result (g.In.Read.remaining c.place_of.new.input) (g.Out.Write.contents c.write_head.new.out) (g.Out.Write.contents c.write_answers.new.out))
    c.in-Ok.ensures.read (c.write_answers.ensures.written answered))
