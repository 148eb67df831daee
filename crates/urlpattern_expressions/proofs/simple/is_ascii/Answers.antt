use Rattle.urlpattern_expressions.proofs.SimpleLemmas.{ascii_text}
use Rattle.urlpattern_expressions.proofs.simple.is_ascii.Goals as goal

pub returns : goal.returns
returns c = ascii_text c.args.text.now c.utf8.text c.is_ascii.result c.is_ascii.ensures.cases
