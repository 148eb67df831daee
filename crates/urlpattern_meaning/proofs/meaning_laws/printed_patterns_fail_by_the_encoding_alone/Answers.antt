use Rattle.urlpattern_meaning.specs.Laws.{listed}
use Rattle.urlpattern_meaning.proofs.ReadsBack.{answered_only, answered_refused}
use Rattle.urlpattern_meaning.proofs.meaning_laws.printed_patterns_fail_by_the_encoding_alone.Goals as goal

pub returns-clause-only : goal.returns-clause-only
returns-clause-only c = λ answers options. answered_only options (listed answers)

pub returns-clause-refused : goal.returns-clause-refused
returns-clause-refused c = λ answers options parts error printable. answered_refused options (listed answers) parts printable error
