use Rattle.urlpattern_syntax.proofs.StringTexts.{text-nil}
use Rattle.urlpattern_syntax.specs.declared.parser.PartType.TheVariants.{FixedText}
use Rattle.urlpattern_syntax.specs.Text.{text_of}
use Rattle.urlpattern_syntax.proofs.parser.Part.fixed.Goals as goal

pub returns : goal.returns
returns c = λ i. record {
  kind = FixedText;
  value = text_of c.args.value;
  modifier = c.args.modifier;
  name = text-nil c.new.result c.new.ensures.bytes i;
  prefix = text-nil c.new-2.result c.new-2.ensures.bytes i;
  suffix = text-nil c.new-3.result c.new-3.ensures.bytes i;
}
