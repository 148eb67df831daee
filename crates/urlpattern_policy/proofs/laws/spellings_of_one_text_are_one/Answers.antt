use Rattle.urlpattern_policy.proofs.SpellingLaws.{last_dot_is_alike, plain_is_plain, shorter_is_alike}
use Rattle.urlpattern_policy.proofs.laws.spellings_of_one_text_are_one.Goals as goal

pub returns-clause-plain : goal.returns-clause-plain
returns-clause-plain c = plain_is_plain

pub returns-clause-shorter : goal.returns-clause-shorter
returns-clause-shorter c = shorter_is_alike

pub returns-clause-last_dot : goal.returns-clause-last_dot
returns-clause-last_dot c = last_dot_is_alike
