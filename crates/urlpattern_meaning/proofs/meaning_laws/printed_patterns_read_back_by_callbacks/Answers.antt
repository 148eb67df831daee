use Rattle.urlpattern_meaning.proofs.ReadsBack.{answered_only, answered_reads, answered_refused, were_read_printable}
use Rattle.urlpattern_syntax.specs.Reading.{encoding_by}
use Rattle.urlpattern_meaning.proofs.meaning_laws.printed_patterns_read_back_by_callbacks.Goals as goal

pub returns-clause-printable : goal.returns-clause-printable
returns-clause-printable g c = λ callback text options. were_read_printable text options (encoding_by g.F.Fn callback)

pub returns-clause-reads : goal.returns-clause-reads
returns-clause-reads g c = λ callback options. answered_reads options (encoding_by g.F.Fn callback)

pub returns-clause-only : goal.returns-clause-only
returns-clause-only g c = λ callback options. answered_only options (encoding_by g.F.Fn callback)

pub returns-clause-refused : goal.returns-clause-refused
returns-clause-refused g c = λ callback options parts error printable.
    answered_refused options (encoding_by g.F.Fn callback) parts printable error
