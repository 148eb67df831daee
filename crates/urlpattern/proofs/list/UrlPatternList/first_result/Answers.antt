use Rattle.std.proofs.Common.{inr}
use Rattle.urlpattern_pattern.proofs.Results.{if_err}
use Rattle.urlpattern.proofs.ListLemmas.{first-same}
use Rattle.urlpattern_pattern.proofs.MatchSteps.{match-same}
use Rattle.urlpattern_matches.specs.BorrowedMatches.{pattern_captures_view}
use Rattle.urlpattern_matches.specs.GroupTexts.{borrowed_texts}
use Rattle.urlpattern.specs.FirstMatch.{patterns_view}
use Rattle.urlpattern_matches.specs.ResultViews.{result_view}
use Rattle.urlpattern.proofs.list.UrlPatternList.first_result.Goals as goal

pub returns-in_ok-to_result-in-Some-clause-first : goal.returns-in_ok-to_result-in-Some-clause-first
returns-in_ok-to_result-in-Some-clause-first g c =
    let answer = g.R.RegExp.answer in
    let texts = borrowed_texts c.args.texts in
    let match = pattern_captures_view c.in-Some.captures in
    let result = result_view c.in_ok-to_result-in-Some.field-0 in
    first-same answer (patterns_view c.args.self.now) texts c.in-Some.index match result
    (λ pattern is_match. match-same answer pattern texts match result c.in_ok-to_result-in-Some.ensures.same is_match) (rw c.in-Some.is at c.in_ok-index.ensures.first)

pub returns-in_err-to_result-in-Some-clause-copied : goal.returns-in_err-to_result-in-Some-clause-copied
returns-in_err-to_result-in-Some-clause-copied g c =
    let ((pattern, is_there, match), earlier) = rw c.in-Some.is at c.in_ok-index.ensures.first in
    if_err _ c.from_residual-in_err-to_result-in-Some.result
    (inr (c.in-Some.index, pattern, is_there, λ component. (match.captures component, match.are_answers component)))
