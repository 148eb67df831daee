use Rattle.urlpat_policies.proofs.DecisionLemmas.{lines_decided}
use Rattle.urlpat_policies.specs.PolicyCommands.{unlabelled}
use Rattle.urlpat_policies.proofs.deciding.decide_lines.Goals as goal

pub returns-in-Ok-clause-answers : goal.returns-in-Ok-clause-answers
returns-in-Ok-clause-answers g c = λ answered.
    lines_decided _ unlabelled (g.In.Read.remaining c.args.input.now) _ _ _ c.in-Ok.tally _ c.in-Ok.ensures (c.finish.ensures.kept answered) (c.finish.ensures.is answered)
