use Rattle.std.proofs.Common.{take}
use Rattle.std.specs.Prelude.{string_bytes}
use Rattle.urlpattern_policy_text.proofs.WritingLemmas.{AreWritten}
use Rattle.urlpattern_policy_text.proofs.writing.text_of_policy.Given as goal

abbrev pub invariant-loop-index : goal.invariant-loop-index
invariant-loop-index g l = AreWritten g.R.RegExp (take l.index l.policy.rules) (string_bytes l.initial.text) (string_bytes l.text)
