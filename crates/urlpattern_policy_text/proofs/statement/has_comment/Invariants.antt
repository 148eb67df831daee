use Rattle.std.proofs.Common.{◌≡◌, drop}
use Rattle.urlpattern_policy_text.specs.Statements.{has_comment}
use Rattle.urlpattern_policy_text.proofs.statement.has_comment.Given as goal

abbrev pub invariant-loop-index : goal.invariant-loop-index
invariant-loop-index l = has_comment l.text ≡ has_comment (drop l.index l.text)
