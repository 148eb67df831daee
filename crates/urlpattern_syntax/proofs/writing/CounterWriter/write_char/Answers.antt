use Rattle.std.proofs.Common.{arith}
use Rattle.urlpattern_syntax.proofs.TextLemmas.{byte_len-char}
use Rattle.urlpattern_syntax.proofs.writing.CounterWriter.write_char.Goals as goal

pub returns : goal.returns
returns c = record { count = λ below. let bytes = byte_len-char c.args.c in omega arith }
