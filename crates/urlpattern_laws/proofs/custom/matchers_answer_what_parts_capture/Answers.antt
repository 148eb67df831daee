use Rattle.urlpattern_laws.proofs.CustomLaws.{pattern_matchers_capture, regex_matchers_capture}
use Rattle.urlpattern_laws.proofs.custom.matchers_answer_what_parts_capture.Goals as goal

pub returns-clause-own : goal.returns-clause-own
returns-clause-own c = pattern_matchers_capture

pub returns-clause-regex : goal.returns-clause-regex
returns-clause-regex c = regex_matchers_capture
