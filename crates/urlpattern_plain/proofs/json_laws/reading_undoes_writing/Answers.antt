use Rattle.urlpattern_plain.proofs.PatternRoundTrip.{component_again, inner_again, matcher_again, pattern_again}
use Rattle.urlpattern_inputs.proofs.RoundTrip.{init_again, input_again, match_input_round_trip, options_again}
use Rattle.urlpattern_plain.proofs.json_laws.reading_undoes_writing.Goals as goal

pub returns : goal.returns
returns c = record { options = options_again; init = init_again; input = input_again; match_input = match_input_round_trip; inner = inner_again; matcher = matcher_again; component = component_again; pattern = pattern_again }
