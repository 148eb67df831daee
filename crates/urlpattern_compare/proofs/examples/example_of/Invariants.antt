use Rattle.std.proofs.Common.{take}
use Rattle.urlpattern_compare.specs.MeantTexts.{MeansText}
use Rattle.urlpattern_syntax.specs.{Options.options_view, Parts.parts_view}
use Rattle.urlpattern_compare.proofs.examples.example_of.Given as goal

-- The text so far is one that the parts so far match.
abbrev pub invariant-loop-part : goal.invariant-loop-part
invariant-loop-part l = MeansText (options_view l.options) (parts_view (take l.part-index l.parts)) l.text.items
