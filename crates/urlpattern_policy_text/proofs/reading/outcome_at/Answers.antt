use Rattle.std.specs.Prelude.{option_copied}
use Rattle.urlpattern_policy_text.proofs.ReadingLemmas.{outcome_there}
use Rattle.urlpattern_policy_text.proofs.reading.outcome_at.Goals as goal

pub returns : goal.returns
returns g c = outcome_there g.R.RegExp (option_copied c.args.base) c.args.lines.now c.args.statements.now c.args.index c.line_at.result.now c.outcome_of.result c.line_at.ensures c.outcome_of.ensures
