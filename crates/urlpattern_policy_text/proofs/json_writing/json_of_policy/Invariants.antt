use Rattle.urlpattern_policy_text.proofs.JsonWritingLemmas.{AreGiven}
use Rattle.urlpattern_policy_text.proofs.json_writing.json_of_policy.Given as goal

abbrev pub invariant-loop-index : goal.invariant-loop-index
invariant-loop-index g l = AreGiven g.R.RegExp l.policy.rules l.index l.rules.items
