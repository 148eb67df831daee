use Rattle.std.proofs.Common.{◌≡◌, ◌++◌, map}
use Rattle.serde_json.specs.View.{members_view}
use Rattle.urlpattern_policy_json.specs.PolicyViews.{fault_view}
use Rattle.urlpattern_policy_json.specs.ReadPolicies.{faults_of}
use Rattle.urlpattern_policy_json.proofs.reading.push_faults.Given as goal

-- The faults so far, and those of the members that are still to come.
abbrev pub invariant-loop-name : goal.invariant-loop-name
invariant-loop-name l =
    map fault_view l.found.items ++ faults_of (members_view l.name-iterator) ≡ map fault_view l.initial.found.items ++ faults_of (members_view l.fn.members.entries)
