use Rattle.urlpattern_matches.proofs.ResultJsonLemmas.{component_again, result_again}
use Rattle.urlpattern_matches.proofs.result_laws.results_are_read_back.Goals as goal

pub returns : goal.returns
returns c = record { component = component_again; result = result_again }
