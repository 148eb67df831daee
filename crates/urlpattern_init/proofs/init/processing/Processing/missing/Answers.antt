use Rattle.std.proofs.Common.{Some, ap}
use Rattle.urlpattern_syntax.proofs.StringTexts.{text-nil}
use Rattle.urlpattern_init.proofs.init.processing.Processing.missing.Goals as goal

pub returns-in-Url : goal.returns-in-Url
returns-in-Url c = rw c.in-Url.is (ap (λ text. Some text) (text-nil c.new.result c.new.ensures.bytes))
