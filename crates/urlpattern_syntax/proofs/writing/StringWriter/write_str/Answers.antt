use Rattle.std.proofs.Common.{arith}
use Rattle.urlpattern_syntax.proofs.StringTexts.{text-append}
use Rattle.urlpattern_syntax.proofs.TextLemmas.{byte_len-chars}
use Rattle.urlpattern_syntax.proofs.writing.StringWriter.write_str.Goals as goal

pub unwrap-requires : goal.unwrap-requires
unwrap-requires c = let bytes = byte_len-chars c.args.text.now c.utf8.text in c.push_str.ensures.succeeds (omega (arith, c.requires.room))

pub returns : goal.returns
returns c =
    let bytes = rw c.unwrap.ensures at c.push_str.ensures.bytes in
    record { text = text-append c.args.self.now c.args.text.now bytes; capacity = c.push_str.ensures.capacity }
