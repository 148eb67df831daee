use Rattle.std.proofs.Common.{arith}
use Rattle.std.proofs.lemmas.Str.{IsCharBoundary-end, IsCharBoundary-start}
use Rattle.urlpattern_diagnosis.proofs.span.Span.whole.Goals as goal

pub returns-clause-within : goal.returns-clause-within
returns-clause-within c = (omega arith, IsCharBoundary-start c.args.text.now c.utf8.text, IsCharBoundary-end c.args.text.now)
