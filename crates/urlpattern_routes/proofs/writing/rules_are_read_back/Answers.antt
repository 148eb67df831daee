use Rattle.urlpattern_routes.proofs.RoundTrip.{rules-again}
use Rattle.urlpattern_routes.proofs.writing.rules_are_read_back.Goals as goal

pub returns : goal.returns
returns c = rules-again
