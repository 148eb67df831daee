use Rattle.urlpattern_policy_json.proofs.RoundTrip.{faultless, rules_again, settings_again}
use Rattle.urlpattern_policy_json.proofs.laws.reading_undoes_writing.Goals as goal

pub returns : goal.returns
returns c = record { settings = settings_again; rules = rules_again; faultless = faultless }
