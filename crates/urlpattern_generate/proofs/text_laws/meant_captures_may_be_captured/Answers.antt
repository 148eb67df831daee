use Rattle.urlpattern_generate.proofs.LinkLaws.{meant_captured}
use Rattle.urlpattern_generate.proofs.text_laws.meant_captures_may_be_captured.Goals as goal

pub returns : goal.returns
returns c = meant_captured
