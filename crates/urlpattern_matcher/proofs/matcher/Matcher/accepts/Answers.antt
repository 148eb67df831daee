use Rattle.std.proofs.Common.{sym, ◌∙◌}
use Rattle.std.specs.Prelude.{◌≡◌, None, is_some}
use Rattle.std.specs.Str.{chars}
use Rattle.urlpattern_meaning.specs.Matching.{Returns}
use Rattle.urlpattern_meaning.specs.CaptureTexts.{captures_view}
use Rattle.urlpattern_matcher.specs.Matchers.{matcher_view}
use Rattle.urlpattern_matcher.proofs.MatcherResults.{answers-matched, is_some-map}
use Rattle.urlpattern_matcher.proofs.matcher.Matcher.accepts.Goals as goal

pub returns-in-None-clause-answer : goal.returns-in-None-clause-answer
returns-in-None-clause-answer g c =
    let none = rw c.in-None.is at c.look.ensures.answer in
    answers-matched g.R.RegExp.answer (matcher_view c.args.self.now) (chars c.args.input.now) None none

pub returns-in_ok-matches-in-Some-Asks-clause-answer :
    goal.returns-in_ok-matches-in-Some-Asks-clause-answer
returns-in_ok-matches-in-Some-Asks-clause-answer g c =
    let answer = g.R.RegExp.answer in
    let matcher = matcher_view c.args.self.now in
    let found = captures_view c.in_ok-matches-in-Some-Asks.field-0 in
    let asked = rw c.in-Some-Asks.field-0-is at c.in-Some-Asks.ensures.answer in
    let answers : Returns answer matcher (chars c.args.input.now) found = rw c.in_ok-matches-in-Some-Asks.ensures asked in
    let found_is : c.is_some.result ≡ is_some found = c.is_some.ensures ∙ sym (is_some-map _ c.in_ok-matches-in-Some-Asks.field-0) in
    rw found_is (answers-matched answer matcher (chars c.args.input.now) found answers)
