use Rattle.std.proofs.Common.{◌∙◌, ℕ, ap, refl}
use Rattle.urlpattern_policy_text.specs.Statements.{column_of}
use Rattle.urlpattern_policy_text.proofs.outcome.rule_outcome.Goals as goal

pub returns-in-Ok : goal.returns-in-Ok
returns-in-Ok g c = λ before. (c.args.text.now, refl, rw c.in-Ok.is at c.in_ok-pattern.ensures.compiled)

pub returns-in-Err : goal.returns-in-Err
returns-in-Err g c = λ before. (c.args.text.now, (refl, rw c.in-Err.is at c.in_ok-pattern.ensures.rejected), c.column_of.ensures ∙ ap (λ (n : ℕ). column_of c.args.line.now c.args.text.now n) c.place_in.ensures)
