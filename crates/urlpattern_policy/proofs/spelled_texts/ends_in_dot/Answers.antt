use Rattle.std.proofs.Common.{◌∙◌, sym}
use Rattle.urlpattern_policy.proofs.SpellingLaws.{ends_by_last}
use Rattle.urlpattern_policy.proofs.spelled_texts.ends_in_dot.Goals as goal

pub returns-in-Some : goal.returns-in-Some
returns-in-Some c = c.is_dot.ensures ∙ sym (ends_by_last _ _ _ c.in-Some.ensures.cut)
