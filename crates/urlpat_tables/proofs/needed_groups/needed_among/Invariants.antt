-- No part so far is a group that lacks a text.
use Rattle.std.proofs.Common.{All, take}
use Rattle.urlpat_tables.specs.RewriteRules.{LacksText}
use Rattle.urlpattern.specs.Patterns.{pattern_view}
use Rattle.urlpattern_syntax.specs.Parts.{part_view}
use Rattle.urlpat_tables.proofs.needed_groups.needed_among.Given as goal

abbrev pub invariant-loop-part : goal.invariant-loop-part
invariant-loop-part l = All (λ part. ¬ LacksText (pattern_view l.from) l.component (part_view part)) (take l.part-index l.parts)
