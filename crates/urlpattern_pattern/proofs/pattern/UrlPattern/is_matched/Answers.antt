use Rattle.urlpattern_pattern.proofs.MatchSteps.{reports-some}
use Rattle.urlpattern_pattern.specs.MatchCalls.{all_captures}
use Rattle.urlpattern_matches.specs.GroupTexts.{borrowed_texts}
use Rattle.urlpattern_pattern.specs.Match.{AreResults, AreMatched, DoesNotMatch}
use Rattle.urlpattern_pattern.specs.Patterns.{pattern_view}
use Rattle.urlpattern_pattern.proofs.pattern.UrlPattern.is_matched.Goals as goal

pub returns-clause-matched : goal.returns-clause-matched
returns-clause-matched g c =
    let answer = g.R.RegExp.answer in
    let pattern = pattern_view c.args.self.now in
    let texts = borrowed_texts c.args.texts.now in
    reports-some (λ captures. AreResults answer pattern texts (all_captures captures)) (AreMatched answer pattern texts) (DoesNotMatch answer pattern texts) _ _
    c.is_some.ensures (λ captures answers name. (all_captures captures name, answers name)) c.in_ok-group_captures.ensures.answers c.in_ok-group_captures.ensures.refused
