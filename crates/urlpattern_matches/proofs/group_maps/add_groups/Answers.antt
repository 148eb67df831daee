use Rattle.std.proofs.Common.{◌≡◌, rules}
use Rattle.std.proofs.lemmas.Slice.Zip.{Zip-more, either_empty_from_Zip}
use Rattle.std.specs.Iterator.Adapters.{zip_first, zip_second}
use Rattle.std.specs.Prelude.{string_bytes}
use Rattle.std.specs.Slice.Iter.{iter_rest}
use Rattle.urlpattern_matches.proofs.MatchGroupLemmas.{groups-end, groups-more}
use Rattle.urlpattern_matches.proofs.group_maps.add_groups.Goals as goal

pub loop-name-preserved : goal.loop-name-preserved
loop-name-preserved c = λ group.
    let before = c.loop-name.name-iterator in
    let behind = c.next.new.self in
    let first = Zip-more before behind c.next.result (c.in-Some.name, c.in-Some.capture) c.in-Some.is c.next.ensures.steps in
    let same : string_bytes c.in_ok-clone.field-0 ≡ string_bytes c.in-Some.name.now = search rules in
    groups-more (iter_rest (zip_first before)) (iter_rest (zip_first behind)) (iter_rest (zip_second before)) (iter_rest (zip_second behind))
    c.in-Some.name.now c.in_ok-clone.field-0 c.in-Some.capture.now c.in_ok-copied.field-0 c.loop-name.groups c.insert.new.self group _
    first.0 first.1 same c.in_ok-copied.ensures c.in_ok-insert.ensures.updates (c.loop-name.invariant group)

pub returns : goal.returns
returns c = record {
  groups = λ group.
      let left = c.loop-name.name-iterator in
      groups-end (iter_rest (zip_first left)) (iter_rest (zip_second left)) group _ _
      (either_empty_from_Zip left c.next.new.self c.next.result c.in-None.is c.next.ensures.steps) (c.loop-name.invariant group);
}
