use Rattle.std.proofs.Common.{◌≡◌, drop, map}
use Rattle.urlpattern_compare.specs.Conditions.{states_after, states_by}
use Rattle.urlpattern_meaning.specs.Matching.{folded_character}
use Rattle.urlpattern_compare.proofs.accepting.accepts.Given as goal

abbrev pub invariant-loop-c : goal.invariant-loop-c
invariant-loop-c l = states_by l.automaton.edges.items l.flags.items (map (folded_character l.automaton.ignore_case) (drop l.c-index l.text)) ≡ states_after l.automaton l.text
