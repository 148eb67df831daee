use Rattle.std.proofs.Common.{◌≡◌, ℕ, List, true}
use Rattle.std.specs.List.{IsDistinct}
use Rattle.std.specs.Map.{keys_of}
use Rattle.std.specs.Option.{option_or}
use Rattle.std.specs.String.{string_eq}
use Rattle.serde_json.specs.View.{members_view}
use Rattle.urlpattern_matches.specs.ResultJson.{are_captures, group_member, groups_by_name}
use Rattle.urlpattern_matches.proofs.ResultJsonLemmas.{named}
use Rattle.urlpattern_matches.proofs.groups_json.groups_tree.Given as goal

-- Groups that are still to come count before the members of the object.
abbrev pub invariant-loop-name : goal.invariant-loop-name
invariant-loop-name l = record {
  distinct : IsDistinct string_eq (keys_of l.name-iterator);
  captures : are_captures (members_view l.members.entries) ≡ true;
  groups : (name : List ℕ) → option_or (named l.name-iterator name) (group_member (members_view l.members.entries) name) ≡ groups_by_name l.groups name;
}
