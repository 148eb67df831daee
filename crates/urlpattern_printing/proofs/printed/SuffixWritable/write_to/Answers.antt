use Rattle.std.proofs.Common.{List, ℕ, sym, subst, ◌∙◌}
use Rattle.urlpattern_printing.proofs.PrintedTexts.{escaped-by, no_suffix}
use Rattle.urlpattern_syntax.proofs.StringTexts.{is_empty-text}
use Rattle.urlpattern_syntax.specs.Parts.{part_view}
use Rattle.urlpattern_printing.proofs.printed.SuffixWritable.write_to.Goals as goal

pub returns-then-is_empty : goal.returns-then-is_empty
returns-then-is_empty g c =
    let part = c.args.self.now.0.now in
    let none = is_empty-text part.suffix ∙ sym c.is_empty.ensures ∙ c.if-is_empty.true in
    subst (λ (text : List ℕ). g.W.Writer.Writes c.args.writer.now text c.args.writer.now) (sym (no_suffix (part_view part) none)) (g.met.W.Writer.writes_nothing c.args.writer.now)

pub write_to-requires : goal.write_to-requires
write_to-requires g c =
    let marked = sym c.continues_name_with_suffix.ensures ∙ c.if-continues_name_with_suffix.true in
    rw (← escaped-by c.pattern-suffix.ensures c.deref.ensures) at (rw marked at c.requires)

pub returns-then-continues_name_with_suffix : goal.returns-then-continues_name_with_suffix
returns-then-continues_name_with_suffix g c =
    let marked = sym c.continues_name_with_suffix.ensures ∙ c.if-continues_name_with_suffix.true in
    rw marked (rw (escaped-by c.pattern-suffix.ensures c.deref.ensures) at c.write_to.ensures)

pub write_to-requires-else-continues_name_with_suffix : goal.write_to-requires-else-continues_name_with_suffix
write_to-requires-else-continues_name_with_suffix g c =
    let unmarked = sym c.continues_name_with_suffix.ensures ∙ c.if-continues_name_with_suffix.false in
    rw (← escaped-by c.pattern-suffix.ensures c.deref.ensures) at (rw unmarked at c.requires)

pub returns-else-continues_name_with_suffix : goal.returns-else-continues_name_with_suffix
returns-else-continues_name_with_suffix g c =
    let unmarked = sym c.continues_name_with_suffix.ensures ∙ c.if-continues_name_with_suffix.false in
    rw unmarked (rw (escaped-by c.pattern-suffix.ensures c.deref.ensures) at c.write_to-else-continues_name_with_suffix.ensures)
