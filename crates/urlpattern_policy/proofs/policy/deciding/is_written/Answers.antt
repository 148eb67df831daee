use Rattle.std.proofs.Common.{◌∙◌, ap, not, sym}
use Rattle.urlpattern_syntax.proofs.StringTexts.{is_empty-str}
use Rattle.urlpattern_policy.proofs.policy.deciding.is_written.Goals as goal

pub returns : goal.returns
returns c = ap not (c.is_empty.ensures ∙ sym (is_empty-str c.args.text.now c.utf8.text))
