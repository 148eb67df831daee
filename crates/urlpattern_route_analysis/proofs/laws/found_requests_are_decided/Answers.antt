use Rattle.urlpattern_route_analysis.proofs.LawLemmas.{found_are_decided}
use Rattle.urlpattern_route_analysis.proofs.laws.found_requests_are_decided.Goals as goal

pub returns : goal.returns
returns c = found_are_decided
