use Rattle.std.proofs.Common.{◌≡◌, ◌∙◌, sym, ap, length}
use Rattle.std.specs.Str.{chars}
use Rattle.urlpattern_syntax.proofs.TextLemmas.{byte_len-chars}
use Rattle.urlpattern_syntax.specs.Text.{byte_len, text_of}
use Rattle.urlpattern_init.proofs.init.processing.Processing.value_with_owned_protocol.Goals as goal

pub returns-in-Some-clause-err : goal.returns-in-Some-clause-err
returns-in-Some-clause-err c =
    let text : chars c.deref.result.now ≡ text_of c.in-Some.protocol = ap chars c.deref.ensures in
    let size : length c.deref.result.now ≡ byte_len (text_of c.in-Some.protocol)
    = sym (byte_len-chars c.deref.result.now c.deref.utf8) ∙ ap byte_len text
    in
    rw (c.in-Some.is, ← size, ← text) c.value.ensures.err
