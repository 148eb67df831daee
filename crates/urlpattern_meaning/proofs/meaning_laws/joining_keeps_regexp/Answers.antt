use Rattle.urlpattern_meaning.proofs.JoinedRegexp.{names_joined, regexp_joined}
use Rattle.urlpattern_meaning.proofs.meaning_laws.joining_keeps_regexp.Goals as goal

pub returns-clause-text : goal.returns-clause-text
returns-clause-text c = regexp_joined

pub returns-clause-names : goal.returns-clause-names
returns-clause-names c = names_joined
