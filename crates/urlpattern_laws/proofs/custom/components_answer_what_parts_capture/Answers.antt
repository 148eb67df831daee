use Rattle.urlpattern_laws.proofs.CaptureCounts.{captures_are_as_names}
use Rattle.urlpattern_laws.proofs.CustomLaws.{pattern_components_capture, regex_components_capture}
use Rattle.urlpattern_laws.proofs.custom.components_answer_what_parts_capture.Goals as goal

pub returns-clause-names : goal.returns-clause-names
returns-clause-names c = captures_are_as_names

pub returns-clause-own : goal.returns-clause-own
returns-clause-own c = pattern_components_capture

pub returns-clause-regex : goal.returns-clause-regex
returns-clause-regex c = regex_components_capture
