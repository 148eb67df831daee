use Rattle.std.proofs.Common.{◌↔◌, drop}
use Rattle.urlpattern_expressions.specs.SimpleExpressions.{AreSimpleBy}
use Rattle.urlpattern_expressions.proofs.simple.are_simple.Given as goal
use Rattle.urlpattern_syntax.specs.Parts.{parts_view}

-- what is left of the parts decides
abbrev pub invariant-loop-part : goal.invariant-loop-part
invariant-loop-part l = record { decides : AreSimpleBy l.ignore_case (parts_view (drop l.part-index l.parts)) ↔ AreSimpleBy l.ignore_case (parts_view l.parts) }
