use Rattle.std.proofs.Common.{take}
use Rattle.urlpat_matching.specs.GroupLines.{AppendsLines, AreLines, named_results}
use Rattle.urlpattern_matches.specs.BorrowedMatches.{pattern_captures_view}
use Rattle.urlpat_matching.proofs.pattern_matching.push_match.Given as goal

abbrev pub invariant-loop-name : goal.invariant-loop-name
invariant-loop-name l = AppendsLines (AreLines (named_results (pattern_captures_view l.found) (take l.name-index l.name-items))) l.initial.text l.text
