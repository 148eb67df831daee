use Rattle.std.proofs.lemmas.Result.{on_ok_weaker}
use Rattle.urlpattern_parser.proofs.ReaderLemmas.{gives_some}
use Rattle.urlpattern_parser.proofs.parser.pieces.Reader.read_to_end.Goals as goal

pub returns-clause-tokens : goal.returns-clause-tokens
returns-clause-tokens c = on_ok_weaker c.read_to_end.result (λ t. gives_some c.args.self.now t.0 c.requires t.1) c.read_to_end.ensures.tokens
