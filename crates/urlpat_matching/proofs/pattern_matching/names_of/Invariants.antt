use Rattle.std.proofs.Common.{◌≡◌, ◌++◌}
use Rattle.std.specs.Map.{keys_of}
use Rattle.urlpat_matching.proofs.GroupNames.{texts}
use Rattle.urlpattern_matches.specs.BorrowedMatches.{groups_left, groups_view}
use Rattle.urlpat_matching.proofs.pattern_matching.names_of.Given as goal

-- The collected names and the remaining ones.
abbrev pub invariant-loop-group : goal.invariant-loop-group
invariant-loop-group l = texts l.names.items ++ keys_of (groups_left l.group-iterator) ≡ keys_of (groups_view l.found l.fn.name)
