use Rattle.urlpattern_engine.specs.PatternRegexps.{pattern_engine}
use Rattle.urlpattern_engine.proofs.EngineLaws.{values_by_flags}
use Rattle.urlpattern_laws.proofs.ByCase.{first_by_case}
use Rattle.urlpattern_laws.proofs.SimpleMatchers.{pattern_makes_first_ways}
use Rattle.urlpattern_laws.proofs.ValuesByCase.{values_by_case}
use Rattle.urlpattern_laws.proofs.laws.first_ways_are_answered_where_case_is_ignored.Goals as goal

pub returns : goal.returns
returns c = first_by_case pattern_engine pattern_makes_first_ways values_by_flags values_by_case
