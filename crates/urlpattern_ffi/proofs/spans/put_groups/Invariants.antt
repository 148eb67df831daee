use Rattle.std.proofs.Common.{◌≡◌, ◌++◌, ◌-◌, List}
use Rattle.urlpattern_ffi.specs.GroupSpans.{NumberedGroup, numbered, AreWrittenAt}
use Rattle.urlpattern_matches.specs.BorrowedMatches.{groups_left}
use Rattle.urlpattern_ffi.proofs.spans.put_groups.Given as goal

-- Some groups are written, and the others remain.
abbrev pub invariant-loop-capture : goal.invariant-loop-capture
invariant-loop-capture l =
    (done : List NumberedGroup)
    × (done ++ numbered l.component (l.sizes.spans - l.from.spans) (groups_left l.capture-iterator) ≡ numbered l.component 0 (groups_left l.fn.groups))
    × AreWrittenAt done l.from l.sizes l.initial.buffer l.buffer l.initial.spans l.spans
