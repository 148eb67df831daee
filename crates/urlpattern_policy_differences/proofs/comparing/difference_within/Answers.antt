use Rattle.std.proofs.Common.{subst}
use Rattle.std.proofs.lemmas.Result.{IfOk-weaker}
use Rattle.urlpattern_policy_differences.specs.Comparing.{IsDifferenceOf}
use Rattle.urlpattern_policy.specs.declared.policy.PolicyOptions.{PolicyOptions}
use Rattle.urlpattern_policy_differences.proofs.comparing.difference_within.Goals as goal

pub returns : goal.returns
returns g c =
    let own = c.in_ok-automata.automata in
    let whole = c.in_ok-whole.whole in
    IfOk-weaker c.difference_by.result _ _
    (λ found is. (
      own,
      whole,
      c.in_ok-automata.ensures.made,
      c.in_ok-whole.ensures.made,
      subst (λ (options : PolicyOptions). IsDifferenceOf c.args.limits own whole c.args.policy.now.options options found) c.new-options.ensures is,
    ))
    c.difference_by.ensures
