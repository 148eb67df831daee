use Rattle.urlpattern_values.proofs.ValueLemmas.{is_decoded_back}
use Rattle.urlpattern_values.proofs.value_laws.encoded_values_are_decoded.Goals as goal

pub returns : goal.returns
returns c = is_decoded_back
