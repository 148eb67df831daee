use Rattle.urlpattern_values.proofs.ValueLemmas.{has_no_delimiters}
use Rattle.urlpattern_values.proofs.value_laws.encoded_values_have_no_delimiters.Goals as goal

pub returns : goal.returns
returns c = has_no_delimiters
