use Rattle.std.proofs.Common.{inl}
use Rattle.std.specs.Prelude.{option_copied}
use Rattle.urlpattern_inputs.specs.InputValues.{init_view}
use Rattle.urlpattern_policy_text.proofs.GivenLemmas.{given_compiled, given_rejected}
use Rattle.urlpattern_policy_text.proofs.json_rules.compiled_init.Goals as goal

pub returns-in-Ok-clause-compiled : goal.returns-in-Ok-clause-compiled
returns-in-Ok-clause-compiled g c =
    given_compiled g.R.RegExp (option_copied c.args.base) (init_view c.args.given) c.in-Ok.made c.compiled_made.result (rw c.in-Ok.is at c.in_ok-found.ensures.made) c.compiled_made.ensures.compiled

pub returns-in-Ok-clause-rejected : goal.returns-in-Ok-clause-rejected
returns-in-Ok-clause-rejected g c =
    given_rejected g.R.RegExp (option_copied c.args.base) (init_view c.args.given) c.in-Ok.made c.compiled_made.result (rw c.in-Ok.is at c.in_ok-found.ensures.made) c.compiled_made.ensures.rejected

pub returns-in-Err-clause-rejected : goal.returns-in-Err-clause-rejected
returns-in-Err-clause-rejected g c = inl (rw c.in-Err.is at c.in_ok-found.ensures.rejected)
