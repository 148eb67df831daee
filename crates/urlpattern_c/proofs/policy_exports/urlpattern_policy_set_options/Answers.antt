use Rattle.std.proofs.Common.{subst, sym}
use Rattle.urlpattern_c.specs.Handles.{policy_in}
use Rattle.urlpattern_ffi_tables.specs.KeptPolicies.{Policy, AreOptionsSet, boxed_policy}
use Rattle.urlpattern_c.proofs.policy_exports.urlpattern_policy_set_options.Goals as goal

pub returns : goal.returns
returns c =
    let Adds = λ (old new : Policy). AreOptionsSet old c.args.default_allows c.args.plain_spelling c.args.denies_credentials new c.set_options-status.result in
    let kept = boxed_policy c.set_options-status.new.kept in
    let added = subst (λ old. Adds old kept) c.take-kept.ensures.taken c.set_options-status.ensures in
    (c.set_options-status.result, c.number.ensures, subst (Adds (policy_in c.args.policy.now)) (sym c.put.ensures) added)
