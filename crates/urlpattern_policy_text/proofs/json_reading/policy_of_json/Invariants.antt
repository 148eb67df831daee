use Rattle.std.proofs.Common.{map}
use Rattle.std.specs.Prelude.{option_copied}
use Rattle.serde_json.specs.View.{view}
use Rattle.urlpattern_policy_json.specs.PolicyViews.{fault_view}
use Rattle.urlpattern_policy_json.specs.ReadPolicies.{rules_in}
use Rattle.urlpattern_policy_text.proofs.JsonLemmas.{AreReadBefore}
use Rattle.urlpattern_policy_text.proofs.json_reading.policy_of_json.Given as goal

abbrev pub invariant-loop-index : goal.invariant-loop-index
invariant-loop-index g l =
    AreReadBefore g.R.RegExp (option_copied l.base) (rules_in (view l.json)) l.index l.rules (map fault_view l.initial.faults.items) (map fault_view l.faults.items)
