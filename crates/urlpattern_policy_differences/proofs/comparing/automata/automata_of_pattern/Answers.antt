use Rattle.urlpattern_policy_differences.proofs.ComparingLemmas.{whole_automata}
use Rattle.urlpattern_policy_differences.proofs.comparing.automata.automata_of_pattern.Goals as goal

pub returns-clause-made : goal.returns-clause-made
returns-clause-made g c = (
  c.new-automata.result,
  record { patterns = c.new-automata.ensures.patterns; effects = c.new-automata.ensures.effects; default = c.new-automata.ensures.default },
  c.in_ok-push_pattern.ensures,
)

pub returns-clause-automata : goal.returns-clause-automata
returns-clause-automata g c =
    whole_automata g.R.RegExp c.args.pattern.now c.push_pattern.new.automata
    (c.new-automata.result, record { patterns = c.new-automata.ensures.patterns; effects = c.new-automata.ensures.effects; default = c.new-automata.ensures.default }, c.in_ok-push_pattern.ensures)
