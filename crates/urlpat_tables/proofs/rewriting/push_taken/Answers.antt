use Rattle.std.proofs.Common.{ap, chars, sym, ◌∙◌}
use Rattle.urlpat_tables.proofs.TakenLemmas.{none-taken, taken-pushed}
use Rattle.urlpat_tables.specs.RewriteRules.{text_taken}
use Rattle.urlpattern.specs.BorrowedMatches.{pattern_captures_view}
use Rattle.urlpattern.specs.Patterns.{pattern_view}
use Rattle.urlpattern_syntax.specs.Text.{option_text}
use Rattle.urlpat_tables.proofs.rewriting.push_taken.Goals as goal

pub returns-in_ok-push-in-Some : goal.returns-in_ok-push-in-Some
returns-in_ok-push-in-Some c =
    taken-pushed c.args.component c.args.name c.in-Some.text (text_taken (pattern_view c.args.from.now) (pattern_captures_view c.args.found.now) c.args.component (chars c.args.name.now))
    c.args.groups.now.items c.push.new.self.items (ap option_text (sym c.in-Some.is) ∙ c.text_taken.ensures) c.in_ok-push-in-Some.ensures.items

pub returns-in-None : goal.returns-in-None
returns-in-None c =
    none-taken c.args.component (chars c.args.name.now) (text_taken (pattern_view c.args.from.now) (pattern_captures_view c.args.found.now) c.args.component (chars c.args.name.now))
    c.args.groups.now.items (ap option_text (sym c.in-None.is) ∙ c.text_taken.ensures)
