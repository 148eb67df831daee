use Rattle.urlpattern_matches.proofs.MatchInputLemmas.{no_input}
use Rattle.urlpattern_matches.proofs.input_parsing.parse_match_input.Goals as goal

pub returns-in-Err-Url-clause-found : goal.returns-in-Err-Url-clause-found
returns-in-Err-Url-clause-found c =
    rw c.in-Init.is (no_input c.in-Init.init c.in-Err-Url.field-0 c.in-Err-Url.field-0-0 c.in-Err-Url.field-0-is c.in-Err-Url.ensures.err)
