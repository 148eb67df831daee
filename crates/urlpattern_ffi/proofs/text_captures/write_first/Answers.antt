use Rattle.std.proofs.Common.{refl}
use Rattle.urlpattern.specs.Eight.{components}
use Rattle.urlpattern_ffi.specs.GroupSpans.{numbered_groups}
use Rattle.urlpattern_ffi.proofs.TextLemmas.{first_text_captured}
use Rattle.urlpattern_matches.specs.BorrowedMatches.{groups_view, pattern_captures_view}
use Rattle.urlpattern_matches.specs.GroupTexts.{borrowed_texts}
use Rattle.urlpattern_ffi.proofs.text_captures.write_first.Goals as goal

pub returns-in-Ok-Some : goal.returns-in-Ok-Some
returns-in-Ok-Some c =
    let groups = groups_view c.in-Ok-Some.found in
    let (pattern, is_there, in_order) = rw c.in-Ok-Some.field-0-is at c.in-Ok-Some.ensures.groups in
    first_text_captured c.args.list.now (borrowed_texts c.args.texts.now) c.args.index.now c.in-Ok-Some.first (numbered_groups groups components) c.args.buffer.now c.write_groups.new.buffer
    c.args.spans.now c.write_groups.new.spans c.write_groups.new.needed c.write_groups.result
    (record {
      pattern = pattern;
      result = pattern_captures_view c.in-Ok-Some.found;
      captures = groups;
      is_there = is_there;
      is_first = rw c.in-Ok-Some.field-0-is at c.in-Ok-Some.ensures.first;
      are_captures = in_order;
      are_groups = refl;
    })
    c.write_groups.ensures
