use Rattle.urlpattern_values.proofs.ValueLemmas.{is_decoded_back}
use Rattle.urlpattern_generate.proofs.encoded_groups.encoded_value.Goals as goal

pub returns-clause-decoded : goal.returns-clause-decoded
returns-clause-decoded c = is_decoded_back c.args.value.now c.utf8.value
