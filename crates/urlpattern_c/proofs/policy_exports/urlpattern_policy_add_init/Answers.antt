use Rattle.std.proofs.Common.{subst, sym}
use Rattle.urlpattern_c.specs.Handles.{policy_in}
use Rattle.urlpattern_ffi_tables.specs.Compilations.{IsPatternOfJson, RejectsJson}
use Rattle.urlpattern_ffi_tables.specs.KeptPolicies.{Policy, IsRuleAdded, boxed_policy}
use Rattle.urlpattern_c.proofs.policy_exports.urlpattern_policy_add_init.Goals as goal

pub returns : goal.returns
returns c =
    let Adds = λ (old new : Policy). IsRuleAdded (IsPatternOfJson c.args.json.now c.args.ignore_case) (RejectsJson c.args.json.now c.args.ignore_case) old c.args.allows new c.add_init_rule-status.result in
    let kept = boxed_policy c.add_init_rule-status.new.kept in
    let added = subst (λ old. Adds old kept) c.take-kept.ensures.taken c.add_init_rule-status.ensures in
    (c.add_init_rule-status.result, c.number.ensures, subst (Adds (policy_in c.args.policy.now)) (sym c.put.ensures) added)
