use Rattle.std.proofs.Common.{[], ap, map, refl}
use Rattle.urlpattern_syntax.proofs.StringTexts.{text-nil}
use Rattle.urlpattern_syntax.specs.Parts.{part_view}
use Rattle.urlpattern_syntax.specs.RegexpText.{group_names}
use Rattle.urlpattern_parser.proofs.GivenNameLemmas.{knows_none, knows_same}
use Rattle.urlpattern_parser.proofs.parser.part_list.PartList.new.Goals as goal

pub returns-clause-empty : goal.returns-clause-empty
returns-clause-empty c = λ i. record {
  parts = ap (map part_view) c.new.ensures.items i;
  pending = text-nil c.new-2.result c.new-2.ensures.bytes i;
  number = 0;
}

pub returns-clause-knows : goal.returns-clause-knows
returns-clause-knows c = knows_same [] _ _ _ 0 0 (ap (λ parts. group_names (map part_view parts)) c.new.ensures.items) refl refl (knows_none _ c.new-3.ensures)
