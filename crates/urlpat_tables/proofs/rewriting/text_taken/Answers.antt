use Rattle.std.proofs.Common.{Option, ap, chars, sym, ◌∙◌}
use Rattle.urlpat_tables.specs.RewriteRules.{taken_text}
use Rattle.urlpattern.specs.BorrowedMatches.{pattern_captures_view}
use Rattle.urlpattern_components.specs.declared.eight.ComponentName.{ComponentName}
use Rattle.urlpat_tables.proofs.rewriting.text_taken.Goals as goal

pub returns-in-Some : goal.returns-in-Some
returns-in-Some c =
    c.get.ensures ∙ ap (λ (source : Option ComponentName). taken_text (pattern_captures_view c.args.found.now) source (chars c.args.name.now)) (sym c.in-Some.is ∙ c.source_of.ensures)

pub returns-in-None : goal.returns-in-None
returns-in-None c =
    ap (λ (source : Option ComponentName). taken_text (pattern_captures_view c.args.found.now) source (chars c.args.name.now)) (sym c.in-None.is ∙ c.source_of.ensures)
