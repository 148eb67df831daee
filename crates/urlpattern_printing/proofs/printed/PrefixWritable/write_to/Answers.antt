use Rattle.std.proofs.Common.{List, ℕ, sym, subst, ◌∙◌}
use Rattle.urlpattern_printing.proofs.PrintedTexts.{escaped-by, escaped-nothing}
use Rattle.urlpattern_syntax.proofs.StringTexts.{is_empty-text}
use Rattle.urlpattern_printing.proofs.printed.PrefixWritable.write_to.Goals as goal

pub returns-then-is_empty : goal.returns-then-is_empty
returns-then-is_empty g c =
    let none = is_empty-text c.args.self.now.0.now.prefix ∙ sym c.is_empty.ensures ∙ c.if-is_empty.true in
    subst (λ (text : List ℕ). g.W.Writer.Writes c.args.writer.now text c.args.writer.now) (sym (escaped-nothing _ none)) (g.met.W.Writer.writes_nothing c.args.writer.now)

pub write_to-requires : goal.write_to-requires
write_to-requires g c = rw (← escaped-by c.pattern-prefix.ensures c.deref.ensures) at c.requires

pub returns : goal.returns
returns g c = rw (escaped-by c.pattern-prefix.ensures c.deref.ensures) at c.write_to.ensures
