use Rattle.std.proofs.Common.{refl}
use Rattle.urlpattern.specs.Eight.{components}
use Rattle.urlpattern_ffi.specs.GroupSpans.{numbered_groups}
use Rattle.urlpattern_ffi.proofs.SpanLemmas.{first_captured}
use Rattle.urlpattern_matches.specs.BorrowedMatches.{groups_view, pattern_captures_view}
use Rattle.urlpattern_ffi.proofs.capturing.list_captures.Goals as goal

pub returns-in-Ok-Some : goal.returns-in-Ok-Some
returns-in-Ok-Some c =
    let groups = groups_view c.in-Ok-Some.found in
    let (pattern, is_there, in_order) = rw c.in-Ok-Some.field-0-is at c.in-Ok-Some.ensures.groups in
    first_captured c.args.list.now c.args.url.now c.args.base.now c.args.index.now c.in-Ok-Some.first (numbered_groups groups components) c.args.buffer.now c.write_groups.new.buffer
    c.args.spans.now c.write_groups.new.spans c.write_groups.new.needed c.write_groups.result
    (record {
      parts = c.in-Ok.url;
      pattern = pattern;
      result = pattern_captures_view c.in-Ok-Some.found;
      captures = groups;
      is_url = c.in-Ok.ensures.found;
      is_there = is_there;
      is_first = rw c.in-Ok-Some.field-0-is at c.in-Ok-Some.ensures.first;
      are_captures = in_order;
      are_groups = refl;
    })
    c.write_groups.ensures
