use Rattle.std.proofs.Common.{of_calls}
use Rattle.std.specs.Fn.{FnReturnsAt}
use Rattle.urlpattern_syntax.proofs.ReadingLemmas.{asked_ok, asked_err}
use Rattle.urlpattern_parser.proofs.parser.PatternParser.encode.Goals as goal

pub returns-clause-ok : goal.returns-clause-ok
returns-clause-ok g c = asked_ok (FnReturnsAt g.F.Fn c.args.self.now.encoding_callback) c.args.text.now _ c.utf8.text (search of_calls)

pub returns-clause-err : goal.returns-clause-err
returns-clause-err g c = asked_err (FnReturnsAt g.F.Fn c.args.self.now.encoding_callback) c.args.text.now _ c.utf8.text (search of_calls)
