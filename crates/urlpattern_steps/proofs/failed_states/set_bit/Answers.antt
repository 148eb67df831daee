use Rattle.std.proofs.Common.{refl}
use Rattle.urlpattern_steps.proofs.FailedLemmas.{bit_set}
use Rattle.urlpattern_steps.proofs.failed_states.set_bit.Goals as goal

pub returns-then-word-bits : goal.returns-then-word-bits
returns-then-word-bits c = bit_set c.args.bits.now c.args.bit _ c.if-word-bits.true refl
