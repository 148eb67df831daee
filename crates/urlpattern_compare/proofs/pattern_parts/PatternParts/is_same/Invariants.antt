use Rattle.std.proofs.Common.{take}
use Rattle.std.specs.Prelude.{All}
use Rattle.urlpattern_compare.specs.EqualParts.{AreEqual}
use Rattle.urlpattern_components.specs.Eight.{at}
use Rattle.urlpattern_compare.proofs.pattern_parts.PatternParts.is_same.Given as goal

-- The components before this one are equal.
abbrev pub invariant-loop-name : goal.invariant-loop-name
invariant-loop-name l = All (λ name. AreEqual (at l.self.components name) (at l.other.components name)) (take l.name-index l.name-items)
