use Rattle.std.proofs.Common.{◌≡◌, ◌∙◌, ap}
use Rattle.std.proofs.lemmas.Result.{IfOk-weaker}
use Rattle.std.specs.Cow.{cow_str_bytes}
use Rattle.std.specs.Str.{chars}
use Rattle.percent_encoding.specs.Iter.{encoded_text}
use Rattle.urlpattern_values.proofs.ValueLemmas.{encoded_by_set}
use Rattle.urlpattern_values.specs.EncodedValues.{encoded}
use Rattle.urlpattern_values.proofs.encoding.encode.Goals as goal

pub returns : goal.returns
returns c =
    IfOk-weaker c.into_cow.result (λ text. cow_str_bytes text ≡ encoded_text c.utf8_percent_encode.result) (λ text. chars (cow_str_bytes text) ≡ encoded (chars c.args.value.now))
    (λ text same. ap chars (same ∙ c.utf8_percent_encode.ensures.text) ∙ encoded_by_set c.args.value.now c.utf8.value)
    c.into_cow.ensures.value
