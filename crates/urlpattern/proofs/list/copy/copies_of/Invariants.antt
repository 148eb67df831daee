use Rattle.std.proofs.Common.{take}
use Rattle.std.specs.List.{AllZip}
use Rattle.urlpattern_pattern.specs.PatternCopies.{IsPatternCopy}
use Rattle.urlpattern.proofs.list.copy.copies_of.Given as goal

abbrev pub invariant-loop-pattern : goal.invariant-loop-pattern
invariant-loop-pattern g l = AllZip IsPatternCopy (take l.pattern-index l.patterns) l.copies
