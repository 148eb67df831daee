use Rattle.std.proofs.Common.{eqb-true}
use Rattle.urlpattern_steps.proofs.FailedLemmas.{bit_by_shift}
use Rattle.urlpattern_steps.proofs.failed_states.has_bit.Goals as goal

pub returns-then-word-bits : goal.returns-then-word-bits
returns-then-word-bits c = λ e. bit_by_shift c.args.bits.now c.args.bit (eqb-true _ 1 e)
