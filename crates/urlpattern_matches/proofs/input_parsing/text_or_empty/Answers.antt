use Rattle.urlpattern_init.proofs.InheritanceLemmas.{text-or_empty}
use Rattle.urlpattern_matches.proofs.input_parsing.text_or_empty.Goals as goal

pub returns : goal.returns
returns c = text-or_empty c.args.text c.new.result c.unwrap_or.result c.new.ensures.bytes c.unwrap_or.ensures
