use Rattle.std.proofs.Common.{◌≡◌, ℕ, List, string_cmp}
use Rattle.std.specs.List.Sorted.{IsStrictlySortedBy}
use Rattle.std.specs.Map.{keys_of}
use Rattle.std.specs.Option.{option_or}
use Rattle.serde_json.specs.View.{members_view}
use Rattle.urlpattern_matches.specs.ResultJson.{are_captures, group_member, groups_by_name}
use Rattle.urlpattern_matches.proofs.groups_json.groups_of_members.Given as goal

-- Members that are still to come count before the groups in the map.
abbrev pub invariant-loop-name : goal.invariant-loop-name
invariant-loop-name l = record {
  sorted : IsStrictlySortedBy string_cmp (keys_of l.name-iterator);
  captures : are_captures (members_view l.name-iterator) ≡ are_captures (members_view l.fn.members.entries);
  groups : (name : List ℕ) → option_or (group_member (members_view l.name-iterator) name) (groups_by_name l.groups name) ≡ group_member (members_view l.fn.members.entries) name;
}
