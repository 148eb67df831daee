use Rattle.std.proofs.Common.{◌≡◌, ◌∙◌, ap, sym}
use Rattle.std.proofs.lemmas.Str.{encodes-chars}
use Rattle.std.specs.Str.{chars}
use Rattle.percent_encoding.specs.Percent.{percent_decode}
use Rattle.urlpattern_values.specs.EncodedValues.{decoded_bytes}
use Rattle.urlpattern_values.proofs.decoding.decode_alike.Goals as goal

pub returns : goal.returns
returns c =
    let left : c.as_slice.result.now ≡ decoded_bytes (chars c.args.text.now) =
    c.as_slice.ensures.value ∙ c.in_ok-bytes.ensures.value ∙ c.percent_decode_str.ensures.bytes ∙ ap percent_decode (sym (encodes-chars c.args.text.now c.utf8.text)) in
    let right : c.as_slice-2.result.now ≡ decoded_bytes (chars c.args.other.now) =
    c.as_slice-2.ensures.value ∙ c.in_ok-others.ensures.value ∙ c.percent_decode_str-2.ensures.bytes ∙ ap percent_decode (sym (encodes-chars c.args.other.now c.utf8.other)) in
    ((λ is. sym left ∙ c.are_same_bytes.ensures.0 is ∙ right), (λ same. c.are_same_bytes.ensures.1 (left ∙ same ∙ sym right)))
