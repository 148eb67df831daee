use Rattle.std.proofs.Common.{◌≡◌, ℕ, List, ◌++◌, length, map}
use Rattle.urlpattern_printing.specs.Neighbours.{neighbour}
use Rattle.urlpattern_meaning.specs.Printing.{printed, printed_after}
use Rattle.urlpattern_syntax.specs.Options.{options_view}
use Rattle.urlpattern_syntax.specs.Parts.{part_view}
use Rattle.urlpattern_printing.proofs.printed.PrintedTextWritable.write_to.Given as goal

-- The text written so far and the text of the parts that are left are the whole text.
abbrev pub invariant-loop-part : goal.invariant-loop-part
invariant-loop-part g l =
    (front : List ℕ) × g.W.Writer.Writes l.fn.writer front l.writer
    × (front ++ printed_after (options_view l.options) (neighbour l.previous) (map part_view l.rest) ≡ printed (options_view l.options) (map part_view l.self.part_list.now))

abbrev pub decreases-loop-part : goal.decreases-loop-part
decreases-loop-part g l = length l.rest
