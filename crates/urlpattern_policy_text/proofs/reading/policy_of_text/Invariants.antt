use Rattle.std.specs.Prelude.{option_copied}
use Rattle.urlpattern_policy_text.proofs.ReadingLemmas.{AreReadTo}
use Rattle.urlpattern_policy_text.proofs.reading.policy_of_text.Given as goal

abbrev pub invariant-loop-index : goal.invariant-loop-index
invariant-loop-index g l = AreReadTo g.R.RegExp l.fn.text (option_copied l.base) l.index l.rules l.faults.items
