use Rattle.urlpattern_laws.proofs.GroupsInOrder.{pattern_groups, regex_groups}
use Rattle.urlpattern_laws.proofs.custom.components_capture_by_groups.Goals as goal

pub returns-clause-own : goal.returns-clause-own
returns-clause-own c = pattern_groups

pub returns-clause-regex : goal.returns-clause-regex
returns-clause-regex c = regex_groups
