use Rattle.std.proofs.Common.{◌≡◌, length}
use Rattle.std.specs.Slice.Iter.{iter_rest}
use Rattle.urlpattern_matches.specs.BorrowedMatches.{all_groups_left}
use Rattle.urlpattern_matches.proofs.captures.groups.UrlPatternCapturesIterIterator.next.Given as goal

-- The remaining groups stay the same.
abbrev pub invariant-loop-name : goal.invariant-loop-name
invariant-loop-name l = all_groups_left l.self ≡ all_groups_left l.initial.self

abbrev pub decreases-loop-name : goal.decreases-loop-name
decreases-loop-name l = length (iter_rest l.self.components)
