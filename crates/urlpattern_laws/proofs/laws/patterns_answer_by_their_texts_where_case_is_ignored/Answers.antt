use Rattle.urlpattern_engine.specs.PatternRegexps.{pattern_engine}
use Rattle.urlpattern_engine.proofs.EngineLaws.{values_by_flags}
use Rattle.urlpattern_laws.proofs.ByCase.{finding_by_case_one, first_by_case, found_by_case, input_found_by_case, texts_by_case}
use Rattle.urlpattern_laws.proofs.KeptMeaning.{kept_meaning_by_case}
use Rattle.urlpattern_laws.proofs.SimpleMatchers.{pattern_makes_first_ways}
use Rattle.urlpattern_laws.proofs.ValuesByCase.{values_by_case}
use Rattle.urlpattern_laws.specs.ByCase.{FirstsAreReturnedByCase}
use Rattle.urlpattern_laws.proofs.laws.patterns_answer_by_their_texts_where_case_is_ignored.Goals as goal

firsts : FirstsAreReturnedByCase pattern_engine
firsts = first_by_case pattern_engine pattern_makes_first_ways values_by_flags values_by_case

pub returns-clause-found : goal.returns-clause-found
returns-clause-found c = found_by_case pattern_engine firsts

pub returns-clause-executed : goal.returns-clause-executed
returns-clause-executed c = input_found_by_case pattern_engine firsts

pub returns-clause-one : goal.returns-clause-one
returns-clause-one c = finding_by_case_one

pub returns-clause-kept : goal.returns-clause-kept
returns-clause-kept c = kept_meaning_by_case pattern_engine

pub returns-clause-urls : goal.returns-clause-urls
returns-clause-urls c = texts_by_case
