use Rattle.std.proofs.Common.{◌≡◌}
use Rattle.serde_json.specs.View.{members_view}
use Rattle.urlpattern_policy_json.specs.ReadPolicies.{are_init_members}
use Rattle.urlpattern_policy_json.proofs.pattern.are_init_members.Given as goal

-- What is known of the members that are still to come is known of all.
abbrev pub invariant-loop-name : goal.invariant-loop-name
invariant-loop-name l = are_init_members (members_view l.name-iterator) ≡ are_init_members (members_view l.fn.members.entries)
