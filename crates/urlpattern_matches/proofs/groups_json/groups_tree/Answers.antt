use Rattle.std.proofs.Common.{ap, is_some, rules, string_bytes, ◌≡◌, ◌∷◌}
use Rattle.std.proofs.lemmas.Map.Keys.{IsDistinct-tail}
use Rattle.std.specs.Map.{keys_of}
use Rattle.std.specs.String.{string_eq}
use Rattle.serde_json.proofs.Views.{view-Object}
use Rattle.serde_json.specs.Data.{put}
use Rattle.serde_json.specs.View.{members_view, view}
use Rattle.urlpattern_matches.specs.ResultJson.{groups_by_name, groups_read}
use Rattle.urlpattern_matches.proofs.ResultJsonLemmas.{captures-put, group-put, groups-read}
use Rattle.urlpattern_matches.proofs.groups_json.groups_tree.Goals as goal

pub loop-name-preserved : goal.loop-name-preserved
loop-name-preserved c =
    let invariant = c.loop-name.invariant in
    let name = c.in-Some.name.now in
    let rest = c.next.new.self in
    let first : c.loop-name.name-iterator ≡ (name, c.in-Some.capture.now) ∷ rest = c.in-Some.ensures.steps in
    let tree = view c.in_ok-captured_tree.field-0 in
    let distinct = rw first at invariant.distinct in
    let old = members_view c.loop-name.members.entries in
    let is_put : members_view c.put.new.map.entries ≡ put (string_bytes name) tree old = search rules in
    record {
      distinct = IsDistinct-tail string_eq name (keys_of rest) distinct;
      captures = rw is_put (captures-put (string_bytes name) tree old (ap is_some c.in_ok-captured_tree.ensures) invariant.captures);
      groups = λ group.
          group-put group name c.in-Some.capture.now rest tree old (members_view c.put.new.map.entries) (groups_by_name c.args.groups.now group)
          distinct c.in_ok-captured_tree.ensures is_put (rw first at invariant.groups group);
    }

pub returns : goal.returns
unfolding groups_read
returns c =
    let invariant = c.loop-name.invariant in
    rw (view-Object c.loop-name.members)
    (groups-read (members_view c.loop-name.members.entries) (groups_by_name c.args.groups.now) invariant.captures
    (λ name. rw c.in-None.ensures.steps.0 at invariant.groups name))
