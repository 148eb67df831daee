use Rattle.std.proofs.Common.{subst, sym}
use Rattle.std.specs.Map.{keys_of}
use Rattle.std.specs.Prelude.{◌++◌}
use Rattle.urlpattern.specs.Reached.{LacksParts}
use Rattle.urlpattern_policy_differences.proofs.ComparingLemmas.{first_lacks}
use Rattle.urlpattern_policy_differences.proofs.comparing.difference.Goals as goal

pub returns-in-Err-clause-missing : goal.returns-in-Err-clause-missing
returns-in-Err-clause-missing g c =
    let olds = keys_of c.args.old.now.rules in
    let news = keys_of c.args.new.now.rules in
    subst (LacksParts (olds ++ news)) (sym c.first_error.ensures) (first_lacks olds news c.error_of.result c.error_of-in-Err.result c.error_of.ensures c.error_of-in-Err.ensures)
