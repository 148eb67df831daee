use Rattle.urlpattern_syntax.proofs.StringTexts.{text-nil}
use Rattle.urlpattern_plain.proofs.matcher.engine_text.Goals as goal

pub returns-in-Err-clause-text : goal.returns-in-Err-clause-text
returns-in-Err-clause-text g c = rw c.in-Err.is (text-nil c.new.result c.new.ensures.bytes)
