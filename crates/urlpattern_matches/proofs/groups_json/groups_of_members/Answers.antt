use Rattle.std.proofs.Common.{rules, string_bytes, ◌≡◌, ◌∷◌}
use Rattle.serde_json.specs.View.{members_view}
use Rattle.urlpattern_matches.specs.ResultJson.{group_member}
use Rattle.urlpattern_matches.proofs.ResultJsonLemmas.{captures-rest, group-inserted, sorted-rest}
use Rattle.urlpattern_matches.proofs.groups_json.groups_of_members.Goals as goal

pub loop-name-preserved : goal.loop-name-preserved
loop-name-preserved c =
    let invariant = c.loop-name.invariant in
    let name = c.in-Some.name.now in
    let tree = c.in-Some.tree.now in
    let rest = c.next.new.self in
    let members = c.args.members.now.entries in
    let first : c.loop-name.name-iterator ≡ (name, tree) ∷ rest = c.in-Some.ensures.steps in
    let sorted = rw first at invariant.sorted in
    let same : string_bytes c.in_ok-clone.field-0 ≡ string_bytes name = search rules in
    let is_capture = c.in_ok-read_capture.ensures in
    record {
      sorted = sorted-rest name tree rest sorted;
      captures = captures-rest name tree rest _ is_capture (rw first at invariant.captures);
      groups = λ group.
          group-inserted group name c.in_ok-clone.field-0 tree rest c.in_ok-read_capture.field-0 c.loop-name.groups c.insert.new.self (group_member (members_view members) group)
          sorted is_capture same c.in_ok-insert.ensures.updates (rw first at invariant.groups group);
    }
