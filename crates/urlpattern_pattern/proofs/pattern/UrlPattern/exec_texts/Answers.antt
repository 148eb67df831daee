use Rattle.std.proofs.Common.{inr}
use Rattle.std.proofs.lemmas.Result.{IfOk-weaker}
use Rattle.urlpattern_pattern.proofs.Results.{if_err}
use Rattle.urlpattern_pattern.proofs.MatchSteps.{found-copy}
use Rattle.urlpattern_matches.specs.BorrowedMatches.{pattern_captures_view}
use Rattle.urlpattern_matches.specs.GroupTexts.{borrowed_texts}
use Rattle.urlpattern_pattern.specs.Match.{IsMatchOf}
use Rattle.urlpattern_matches.specs.ResultViews.{result_view}
use Rattle.urlpattern_pattern.specs.Patterns.{pattern_view}
use Rattle.urlpattern_pattern.proofs.pattern.UrlPattern.exec_texts.Goals as goal

pub returns-in-Some-clause-matched : goal.returns-in-Some-clause-matched
returns-in-Some-clause-matched g c =
    let match : IsMatchOf g.R.RegExp.answer (pattern_view c.args.self.now) (borrowed_texts c.args.texts) (pattern_captures_view c.in-Some.captures) =
    rw c.in-Some.is at c.in_ok-captures.ensures.matched in
    IfOk-weaker c.copy_found.result _ _
    (λ found same. found-copy g.R.RegExp.answer (pattern_view c.args.self.now) (borrowed_texts c.args.texts) (pattern_captures_view c.in-Some.captures) result_view found same match)
    c.copy_found.ensures.same

pub returns-in-Some-clause-copied : goal.returns-in-Some-clause-copied
returns-in-Some-clause-copied g c =
    let match : IsMatchOf g.R.RegExp.answer (pattern_view c.args.self.now) (borrowed_texts c.args.texts) (pattern_captures_view c.in-Some.captures) =
    rw c.in-Some.is at c.in_ok-captures.ensures.matched in
    if_err _ c.copy_found.result (inr (λ component. (match.captures component, match.are_answers component)))
