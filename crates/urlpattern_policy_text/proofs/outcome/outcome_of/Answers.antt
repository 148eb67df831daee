use Rattle.std.proofs.Common.{◌≡◌, ◌∙◌, None, ap, map, refl, subst, sym}
use Rattle.std.proofs.lemmas.Result.{IfOk-weaker}
use Rattle.std.specs.Prelude.{option_copied}
use Rattle.urlpattern_policy_text.specs.PolicyTexts.{IsFine, IsOutcomeOf, rule_in}
use Rattle.urlpattern_policy_text.specs.Statements.{StatementView, column_of, statement_view}
use Rattle.urlpattern_policy_text.proofs.outcome.outcome_of.Goals as goal

pub returns-in-Nothing : goal.returns-in-Nothing
returns-in-Nothing g c =
    subst (λ statement. IsFine g.R.RegExp (option_copied c.args.base) (map statement_view c.args.before.now) statement × (rule_in statement ≡ None))
    (ap statement_view (sym c.in-Nothing.is) ∙ c.statement_of.ensures) (tt, refl)

pub returns-in-Rule : goal.returns-in-Rule
returns-in-Rule g c =
    let before = map statement_view c.args.before.now in
    let says = ap statement_view (sym c.in-Rule.is) ∙ c.statement_of.ensures in
    IfOk-weaker c.rule_outcome.result _ _
    (λ outcome is. subst (λ statement. IsOutcomeOf g.R.RegExp (option_copied c.args.base) before c.args.line.now statement outcome) says (is before)) c.rule_outcome.ensures

pub returns-in-Setting : goal.returns-in-Setting
returns-in-Setting g c =
    let before = map statement_view c.args.before.now in
    let says = ap statement_view (sym c.in-Setting.is) ∙ c.statement_of.ensures in
    IfOk-weaker c.setting_outcome.result _ _
    (λ outcome is. subst (λ statement. IsOutcomeOf g.R.RegExp (option_copied c.args.base) before c.args.line.now statement outcome) says (is (option_copied c.args.base))) c.setting_outcome.ensures

pub returns-in-Fault : goal.returns-in-Fault
returns-in-Fault g c =
    let says = ap statement_view (sym c.in-Fault.is) ∙ c.statement_of.ensures in
    (sym says, c.column_of.ensures ∙ ap (λ part. column_of c.args.line.now part 0) c.faulty_part.ensures)
