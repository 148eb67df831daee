use Rattle.std.proofs.Common.{take}
use Rattle.urlpattern_components.specs.Eight.{components}
use Rattle.urlpattern_ffi.specs.GroupSpans.{no_sizes, numbered_groups, AreWrittenAt}
use Rattle.urlpattern_matches.specs.BorrowedMatches.{groups_view}
use Rattle.urlpattern_ffi.proofs.spans.put_all.Given as goal

-- The groups of the components so far are written.
abbrev pub invariant-loop-name : goal.invariant-loop-name
invariant-loop-name l =
    AreWrittenAt (numbered_groups (groups_view l.found) (take l.name-index components)) no_sizes l.sizes l.initial.buffer l.buffer l.initial.spans l.spans
