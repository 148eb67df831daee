use Rattle.std.proofs.Common.{subst, sym}
use Rattle.urlpattern_c.specs.Handles.{policy_in}
use Rattle.urlpattern_ffi_tables.specs.Compilations.{IsPatternOfBytes, RejectsBytes}
use Rattle.urlpattern_ffi_tables.specs.KeptPolicies.{Policy, IsRuleAdded, boxed_policy}
use Rattle.urlpattern_c.proofs.policy_exports.urlpattern_policy_add.Goals as goal

pub returns : goal.returns
returns c =
    let Adds = λ (old new : Policy). IsRuleAdded (IsPatternOfBytes c.args.text.now c.args.base.now c.args.ignore_case) (RejectsBytes c.args.text.now c.args.base.now c.args.ignore_case) old c.args.allows new c.add_rule-status.result in
    let kept = boxed_policy c.add_rule-status.new.kept in
    let added = subst (λ old. Adds old kept) c.take-kept.ensures.taken c.add_rule-status.ensures in
    (c.add_rule-status.result, c.number.ensures, subst (Adds (policy_in c.args.policy.now)) (sym c.put.ensures) added)
