use Rattle.std.proofs.Common.{take}
use Rattle.std.specs.List.{All, Contains}
use Rattle.urlpattern_compare.specs.Exits.{HasNamesOf}
use Rattle.urlpattern_syntax.specs.Text.{line_feed}
use Rattle.urlpattern_compare.proofs.classes.named_by.Given as goal

abbrev pub invariant-loop-own : goal.invariant-loop-own
invariant-loop-own l = record {
  feed : Contains l.marks.items line_feed;
  named : All (HasNamesOf l.marks.items) (take l.own-index l.exits);
}
