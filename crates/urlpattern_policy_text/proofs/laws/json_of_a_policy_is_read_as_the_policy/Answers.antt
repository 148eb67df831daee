use Rattle.urlpattern_policy_text.proofs.JsonRoundTrip.{json_reads_back}
use Rattle.urlpattern_policy_text.proofs.laws.json_of_a_policy_is_read_as_the_policy.Goals as goal

pub returns : goal.returns
returns g c = json_reads_back g.R.RegExp
