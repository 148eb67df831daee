use Rattle.urlpattern_pattern.proofs.MatchLaws.{match_from-test, match-not_both, match-one, test_from-match}
use Rattle.urlpattern_laws.proofs.laws.tests_agree_with_matches.Goals as goal

pub returns-clause-agree : goal.returns-clause-agree
returns-clause-agree g c = λ answer pattern input.
    (match_from-test answer pattern input, λ (result, match). test_from-match answer pattern input result match)

pub returns-clause-one : goal.returns-clause-one
returns-clause-one g c = match-one

pub returns-clause-not_both : goal.returns-clause-not_both
returns-clause-not_both g c = match-not_both
