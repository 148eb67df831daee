use Rattle.std.proofs.Common.{◌∙◌, sym}
use Rattle.urlpattern_policy_text.proofs.CommentLemmas.{comment_past}
use Rattle.urlpattern_policy_text.proofs.statement.has_comment.Goals as goal

pub loop-index-preserved : goal.loop-index-preserved
loop-index-preserved c = c.loop-index.invariant ∙ comment_past c.args.text.now c.loop-index.index c.loop-index-test.true (sym c.is_comment_next.ensures ∙ c.if-is_comment_next.false)
