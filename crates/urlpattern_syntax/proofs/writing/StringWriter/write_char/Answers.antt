use Rattle.std.proofs.Common.{rules, arith}
use Rattle.urlpattern_syntax.proofs.StringTexts.{text-push}
use Rattle.urlpattern_syntax.proofs.TextLemmas.{byte_len-char}
use Rattle.urlpattern_syntax.proofs.writing.StringWriter.write_char.Goals as goal

pub unwrap-requires : goal.unwrap-requires
unwrap-requires c = let bytes = byte_len-char c.args.c in c.push.ensures.succeeds (omega (arith, c.requires.room))

pub returns : goal.returns
returns c =
    let bytes = rw c.unwrap.ensures at c.push.ensures.bytes in
    record { text = text-push c.args.self.now c.args.c (search rules) bytes; capacity = c.push.ensures.capacity }
