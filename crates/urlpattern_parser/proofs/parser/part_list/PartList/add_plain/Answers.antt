use Rattle.urlpattern_syntax.proofs.StringTexts.{text-append}
use Rattle.urlpattern_parser.proofs.parser.part_list.PartList.add_plain.Goals as goal

pub returns-clause-pending : goal.returns-clause-pending
returns-clause-pending c = text-append c.args.self.now.pending_fixed_value c.args.text.now c.in_ok-push_str.ensures.bytes
