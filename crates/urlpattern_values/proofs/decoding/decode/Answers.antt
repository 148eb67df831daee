use Rattle.std.proofs.Common.{IsUtf8, subst, sym}
use Rattle.std.specs.Str.{chars}
use Rattle.percent_encoding.specs.Iter.{undecoded_input}
use Rattle.urlpattern_values.proofs.ValueLemmas.{is_decoded}
use Rattle.urlpattern_values.specs.EncodedValues.{IsDecoded}
use Rattle.urlpattern_values.proofs.decoding.decode.Goals as goal

pub returns : goal.returns
returns c =
    let same = c.percent_decode_str.ensures.input in
    subst (λ text. IsDecoded (chars text) c.decode_utf8.result) same
    (is_decoded (undecoded_input c.percent_decode_str.result) c.decode_utf8.result (subst IsUtf8 (sym same) c.utf8.text)
    c.decode_utf8.ensures.value c.decode_utf8.ensures.ok_only_if_utf8 c.decode_utf8.ensures.utf8 c.decode_utf8.ensures.has_memory)
