use Rattle.std.proofs.Common.{arith}
use Rattle.urlpattern_syntax.proofs.TextLemmas.{byte_len-chars}
use Rattle.urlpattern_syntax.proofs.writing.CounterWriter.write_str.Goals as goal

pub returns : goal.returns
returns c = record { count = λ below. let bytes = byte_len-chars c.args.text.now c.utf8.text in omega arith }
