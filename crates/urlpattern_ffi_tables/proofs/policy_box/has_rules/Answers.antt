use Rattle.std.proofs.Common.{◌∙◌, ap}
use Rattle.urlpattern_ffi_tables.proofs.policy_box.has_rules.Goals as goal

pub returns-in-Some-clause-some : goal.returns-in-Some-clause-some
returns-in-Some-clause-some c =
    let (same, some) = c.in-Some.ensures.some in
    λ none. some (ap (λ policy. policy.rules) same ∙ none)
