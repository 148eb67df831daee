use Rattle.std.proofs.Common.{ap, sym, ◌∙◌}
use Rattle.regex.specs.Patterns.{find_str}
use Rattle.urlpattern_matcher.proofs.EngineLemmas.{answer_of_captures, answer_of_none}
use Rattle.urlpattern_matcher.proofs.regexp.RegexRegExp.matches.Goals as goal

pub returns-in-Some : goal.returns-in-Some
returns-in-Some c =
    let regex = c.args.self.now in
    let bytes = c.args.text.now in
    let matcher = c.in_ok-matcher.ensures in
    let found = c.in-Some.ensures.found in
    answer_of_captures regex bytes found.0 c.in-Some.captures _ c.utf8.text
    (ap (λ pattern. find_str pattern bytes 0) (sym matcher.pattern) ∙ found.1) found.2
    (c.in-Some.ensures.names ∙ matcher.names) c.in_ok-groups-in-Some.ensures

pub returns : goal.returns
returns c =
    let bytes = c.args.text.now in
    answer_of_none c.args.self.now bytes c.utf8.text (ap (λ pattern. find_str pattern bytes 0) (sym c.in_ok-matcher.ensures.pattern) ∙ c.in-None.ensures.found)
