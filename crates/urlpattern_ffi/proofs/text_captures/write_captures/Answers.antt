use Rattle.std.proofs.Common.{refl}
use Rattle.urlpattern.specs.Eight.{components}
use Rattle.urlpattern.specs.Patterns.{pattern_view}
use Rattle.urlpattern_ffi.specs.GroupSpans.{numbered_groups}
use Rattle.urlpattern_ffi.proofs.TextLemmas.{text_captured}
use Rattle.urlpattern_matches.specs.BorrowedMatches.{groups_view}
use Rattle.urlpattern_matches.specs.GroupTexts.{borrowed_texts}
use Rattle.urlpattern_ffi.proofs.text_captures.write_captures.Goals as goal

pub returns-in-Ok-Some : goal.returns-in-Ok-Some
returns-in-Ok-Some c =
    let groups = groups_view c.in-Ok-Some.found in
    text_captured (pattern_view c.args.pattern.now) (borrowed_texts c.args.texts.now) (numbered_groups groups components) c.args.buffer.now c.write_groups.new.buffer
    c.args.spans.now c.write_groups.new.spans c.write_groups.new.needed c.write_groups.result
    (record { captures = groups; are_captures = rw c.in-Ok-Some.field-0-is at c.in-Ok-Some.ensures.groups; are_groups = refl }) c.write_groups.ensures
