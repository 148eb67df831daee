use Rattle.std.proofs.Common.{[], ◌∷◌, subst, sym}
use Rattle.std.specs.Map.{keys_of}
use Rattle.std.specs.Prelude.{◌++◌}
use Rattle.urlpattern.specs.Reached.{LacksParts}
use Rattle.urlpattern_policy_differences.proofs.ComparingLemmas.{first_lacks}
use Rattle.urlpattern_policy_differences.proofs.comparing.is_within.Goals as goal

pub returns-in-Err-clause-missing : goal.returns-in-Err-clause-missing
returns-in-Err-clause-missing g c =
    let rules = keys_of c.args.policy.now.rules in
    let one = c.args.pattern.now ∷ [] in
    subst (LacksParts (rules ++ one)) (sym c.first_error.ensures) (first_lacks rules one c.error_of.result c.error_of_pattern.result c.error_of.ensures c.error_of_pattern.ensures)
