use Rattle.urlpattern_compare.proofs.DecidedLemmas.{apart_known, equal_covered, parted_known}
use Rattle.urlpattern_compare.proofs.comparing_laws.decided_comparisons_are_known.Goals as goal

pub returns-clause-equal : goal.returns-clause-equal
returns-clause-equal c = equal_covered

pub returns-clause-parted : goal.returns-clause-parted
returns-clause-parted c = parted_known

pub returns-clause-apart : goal.returns-clause-apart
returns-clause-apart c = apart_known
