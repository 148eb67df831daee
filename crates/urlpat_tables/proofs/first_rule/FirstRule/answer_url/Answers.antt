use Rattle.std.proofs.Common.{rules, sym}
use Rattle.urlpat_tables.proofs.FirstRuleLemmas.{no-value, url-matched, url-rejected, url-unmatched}
use Rattle.urlpattern.specs.BorrowedMatches.{pattern_captures_view}
use Rattle.urlpattern_canonical.specs.BaseUrls.{kept_base}
use Rattle.urlpat_tables.proofs.first_rule.FirstRule.answer_url.Goals as goal

pub returns-in_default-found : goal.returns-in_default-found
returns-in_default-found g c =
    url-rejected (g.A.Reply.Matched c.args.self.now.reply.now) (g.A.Reply.Leaves c.args.self.now.reply.now) c.args.self.now.patterns.now (kept_base c.args.self.now.base.now)
    c.args.text.now c.args.line.now c.args.written.now.items c.leave.new.written.items c.leave.result (search rules) c.leave.ensures

pub returns-in_default-first : goal.returns-in_default-first
returns-in_default-first g c =
    url-unmatched (g.A.Reply.Matched c.args.self.now.reply.now) (g.A.Reply.Leaves c.args.self.now.reply.now) c.args.self.now.patterns.now (kept_base c.args.self.now.base.now)
    c.args.text.now c.args.line.now c.args.written.now.items c.leave-in_default-first.new.written.items c.leave-in_default-first.result
    (c.in-Some.url, rw c.in-Some.is at c.in-Ok.ensures.found, rw c.in_default-first.is at c.in-Ok-first_captures.ensures.first) c.leave-in_default-first.ensures

pub unreachable-requires : goal.unreachable-requires
unreachable-requires g c =
    let ((pattern, at, is), before) = rw c.in-Some-first.is at c.in-Ok-first_captures.ensures.first in
    no-value c.args.self.now.patterns.now c.in-Some-first.index pattern at (sym c.in_default-get.ensures)

pub returns : goal.returns
returns g c =
    url-matched (g.A.Reply.Matched c.args.self.now.reply.now) (g.A.Reply.Leaves c.args.self.now.reply.now) c.args.self.now.patterns.now (kept_base c.args.self.now.base.now)
    c.args.text.now c.args.line.now c.args.written.now.items c.matched-answered.new.written.items c.in-Some-get.pattern.now c.in-Some-get.value.now (pattern_captures_view c.in-Some-first.found)
    c.matched-answered.result
    (record {
      url = c.in-Some.url;
      index = c.in-Some-first.index;
      is_url = rw c.in-Some.is at c.in-Ok.ensures.found;
      is_first = rw c.in-Some-first.is at c.in-Ok-first_captures.ensures.first;
      is_there = sym c.in-Some-get.ensures;
    })
    c.matched-answered.ensures
