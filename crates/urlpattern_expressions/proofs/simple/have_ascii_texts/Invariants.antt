use Rattle.std.proofs.Common.{◌↔◌, All, drop}
use Rattle.urlpattern_expressions.specs.SimpleExpressions.{HasAsciiTexts}
use Rattle.urlpattern_expressions.proofs.simple.have_ascii_texts.Given as goal
use Rattle.urlpattern_syntax.specs.Parts.{parts_view}

-- what is left of the parts decides
abbrev pub invariant-loop-part : goal.invariant-loop-part
invariant-loop-part l = record { decides : All HasAsciiTexts (parts_view (drop l.part-index l.parts)) ↔ All HasAsciiTexts (parts_view l.parts) }
