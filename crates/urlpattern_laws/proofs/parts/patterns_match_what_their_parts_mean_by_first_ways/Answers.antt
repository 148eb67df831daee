use Rattle.urlpattern_laws.proofs.EngineParts.{parts_mean_by_first_ways, parts_mean_by_flags}
use Rattle.urlpattern_laws.proofs.KeptMeaning.{kept_parts_mean}
use Rattle.urlpattern_laws.proofs.parts.patterns_match_what_their_parts_mean_by_first_ways.Goals as goal

pub returns-clause-first_ways : goal.returns-clause-first_ways
returns-clause-first_ways g c = parts_mean_by_first_ways g.R.RegExp

pub returns-clause-by_flags : goal.returns-clause-by_flags
returns-clause-by_flags g c = parts_mean_by_flags g.R.RegExp

pub returns-clause-by_text : goal.returns-clause-by_text
returns-clause-by_text g c = kept_parts_mean g.R.RegExp
