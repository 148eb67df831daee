use Rattle.std.proofs.Common.{◌∙◌, ap, subst, sym}
use Rattle.std.specs.Prelude.{IfErr, IfOk, option_copied}
use Rattle.urlpattern_inputs.specs.InputValues.{InputView, input_view, of_text}
use Rattle.urlpattern_policy_text.specs.PolicyJson.{IsGivenCompiled, IsGivenRejected}
use Rattle.urlpattern_policy_text.proofs.json_rules.compiled_given.Goals as goal

pub returns-in-String-clause-compiled : goal.returns-in-String-clause-compiled
returns-in-String-clause-compiled g c =
    subst (λ (given : InputView). IfOk c.compiled-made.result (λ it. IfOk it (IsGivenCompiled g.R.RegExp (option_copied c.args.base) given)))
    (ap of_text c.as_str.ensures.value ∙ ap input_view (sym c.in-String.is)) c.compiled-made.ensures.compiled

pub returns-in-String-clause-rejected : goal.returns-in-String-clause-rejected
returns-in-String-clause-rejected g c =
    subst (λ (given : InputView). IfOk c.compiled-made.result (λ it. IfErr it (IsGivenRejected g.R.RegExp (option_copied c.args.base) given)))
    (ap of_text c.as_str.ensures.value ∙ ap input_view (sym c.in-String.is)) c.compiled-made.ensures.rejected
