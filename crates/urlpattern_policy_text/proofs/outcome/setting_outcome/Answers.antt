use Rattle.std.proofs.Common.{◌≡◌, ◌∙◌, ap, false, map, refl, subst, sym}
use Rattle.std.proofs.lemmas.Result.{IfOk-weaker}
use Rattle.std.specs.List.{list_any}
use Rattle.std.specs.Prelude.{option_copied}
use Rattle.urlpattern_policy_text.proofs.StatementLemmas.{any_mapped, base_is, fine_unless_base}
use Rattle.urlpattern_policy_text.specs.PolicyTexts.{IsOutcomeOf}
use Rattle.urlpattern_policy_text.specs.Statements.{Says, SettingView, column_of, setting_view, sets_like, statement_view}
use Rattle.urlpattern_policy_text.proofs.outcome.setting_outcome.Goals as goal

pub returns-then-has_like : goal.returns-then-has_like
returns-then-has_like g c = λ base.
    let any = any_mapped statement_view (sets_like (setting_view c.args.setting)) c.args.before.now in (
      (setting_view c.args.setting, refl, sym any ∙ sym c.has_like.ensures ∙ c.if-has_like.true),
      c.column_of-column.ensures ∙ ap (λ part. column_of c.args.line.now part 0) c.trim.ensures.trim,
    )

pub returns-in-Some : goal.returns-in-Some
returns-in-Some g c =
    let before = map statement_view c.args.before.now in
    let any = any_mapped statement_view (sets_like (setting_view c.args.setting)) c.args.before.now in
    let none : list_any (sets_like (setting_view c.args.setting)) before ≡ false = sym any ∙ sym c.has_like.ensures ∙ c.if-has_like.false in
    let is_base = base_is (setting_view c.args.setting) c.in-Some.text.now (sym c.base_in.ensures ∙ ap option_copied c.in-Some.is) in
    IfOk-weaker c.base_outcome.result _ _
    (λ outcome is base.
    subst (λ (setting : SettingView). IsOutcomeOf g.R.RegExp base before c.args.line.now (Says setting) outcome) (sym is_base)
    (is base before (subst (λ (setting : SettingView). list_any (sets_like setting) before ≡ false) is_base none))) c.base_outcome.ensures

pub returns-in-None : goal.returns-in-None
returns-in-None g c = λ base.
    let any = any_mapped statement_view (sets_like (setting_view c.args.setting)) c.args.before.now in
    ((sym any ∙ sym c.has_like.ensures ∙ c.if-has_like.false, fine_unless_base (setting_view c.args.setting) (sym c.base_in.ensures ∙ ap option_copied c.in-None.is)), refl)
