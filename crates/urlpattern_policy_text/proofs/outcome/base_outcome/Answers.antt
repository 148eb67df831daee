use Rattle.std.proofs.Common.{◌∙◌, ℕ, ap, refl}
use Rattle.urlpattern_policy_text.specs.Statements.{column_of}
use Rattle.urlpattern_policy_text.proofs.outcome.base_outcome.Goals as goal

pub returns-in-None : goal.returns-in-None
returns-in-None g c = λ base before none. ((none, rw c.in-None.is at c.in_ok-found.ensures.accepted), refl)

pub returns-in-Some : goal.returns-in-Some
returns-in-Some g c = λ base before none. (c.args.text.now, (refl, none, rw c.in-Some.is at c.in_ok-found.ensures.rejected), c.column_of.ensures ∙ ap (λ (n : ℕ). column_of c.args.line.now c.args.text.now n) c.place_in.ensures)
