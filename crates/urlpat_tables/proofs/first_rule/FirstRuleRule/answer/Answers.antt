use Rattle.std.proofs.Common.{Some, ap, option_copied, option_map, string_bytes, sym, ◌∙◌}
use Rattle.urlpat_tables.proofs.FirstRuleLemmas.{line-left, place-answered, place-left}
use Rattle.urlpat_tables.specs.Fields.{field_of}
use Rattle.urlpattern_canonical.specs.BaseUrls.{kept_base}
use Rattle.urlpat_tables.proofs.first_rule.FirstRuleRule.answer.Goals as goal

pub returns-in_default : goal.returns-in_default
returns-in_default g c =
    let self = c.args.self.now in
    line-left (g.A.Reply.Matched self.reply.now) (g.A.Reply.Leaves self.reply.now) self.patterns.now (kept_base self.base.now) self.place (option_copied c.args.text) c.args.line.now
    c.args.written.now.items c.leave.new.written.items c.leave.result (ap option_copied c.in_default.is) c.leave.ensures

pub returns-in-Whole : goal.returns-in-Whole
returns-in-Whole g c =
    let self = c.args.self.now in
    let text = c.in-Some.text.now in
    place-answered (g.A.Reply.Matched self.reply.now) (g.A.Reply.Leaves self.reply.now) self.patterns.now (kept_base self.base.now) self.place (option_copied c.args.text) text c.args.line.now
    c.args.written.now.items c.answer_url.new.written.items (ap option_copied c.in-Some.is) text c.answer_url.result (ap (λ place. field_of place text) c.in-Whole.is) c.answer_url.ensures

pub returns-in-Some-2 : goal.returns-in-Some-2
returns-in-Some-2 g c =
    let self = c.args.self.now in
    let text = c.in-Some.text.now in
    place-answered (g.A.Reply.Matched self.reply.now) (g.A.Reply.Leaves self.reply.now) self.patterns.now (kept_base self.base.now) self.place (option_copied c.args.text) text c.args.line.now
    c.args.written.now.items c.answer_url-answered.new.written.items (ap option_copied c.in-Some.is) c.deref.result.now c.answer_url-answered.result
    (sym c.in_ok-url.ensures ∙ ap (option_map string_bytes) c.in-Some-2.is ∙ ap Some (sym c.deref.ensures)) c.answer_url-answered.ensures

pub returns-in-None : goal.returns-in-None
returns-in-None g c =
    let self = c.args.self.now in
    let text = c.in-Some.text.now in
    place-left (g.A.Reply.Matched self.reply.now) (g.A.Reply.Leaves self.reply.now) self.patterns.now (kept_base self.base.now) self.place (option_copied c.args.text) text c.args.line.now
    c.args.written.now.items c.leave-in-None.new.written.items (ap option_copied c.in-Some.is) c.leave-in-None.result
    (sym c.in_ok-url.ensures ∙ ap (option_map string_bytes) c.in-None.is) c.leave-in-None.ensures
