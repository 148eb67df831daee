use Rattle.urlpattern_policy_differences.proofs.ComparingLemmas.{made_automata}
use Rattle.urlpattern_policy_differences.proofs.comparing.automata.automata_of.Goals as goal

pub returns-clause-made : goal.returns-clause-made
returns-clause-made g c = (c.in_ok-automata.automata, c.in_ok-automata.ensures, c.in_ok-push_rules.ensures)

pub returns-clause-automata : goal.returns-clause-automata
returns-clause-automata g c =
    made_automata g.R.RegExp c.args.policy.now c.push_rules.new.automata (c.in_ok-automata.automata, c.in_ok-automata.ensures, c.in_ok-push_rules.ensures)
