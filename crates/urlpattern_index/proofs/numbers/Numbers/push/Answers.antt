use Rattle.std.proofs.Common.{arith}
use Rattle.std.proofs.lemmas.Bool.Decides.{nat_tests}
use Rattle.std.proofs.lemmas.Grind.{common_steps}
use Rattle.urlpattern_index.proofs.numbers.Numbers.push.Goals as goal

pub returns-clause-appended : goal.returns-clause-appended
returns-clause-appended c = λ other. grind (arith, common_steps, nat_tests)
