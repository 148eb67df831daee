use Rattle.std.proofs.Common.{take}
use Rattle.urlpattern_compare.proofs.PatternPartLemmas.{IsSoFar}
use Rattle.urlpattern_compare.proofs.pattern_parts.PatternParts.first_uncovered.Given as goal

abbrev pub invariant-loop-name : goal.invariant-loop-name
invariant-loop-name l = IsSoFar l.self l.asked (take l.name-index l.name-items) l.first
