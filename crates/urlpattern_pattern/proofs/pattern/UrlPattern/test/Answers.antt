use Rattle.std.proofs.Common.{ap, sym, ◌∙◌}
use Rattle.std.specs.Prelude.{Ok}
use Rattle.urlpattern_matches.specs.GroupTexts.{borrowed_texts}
use Rattle.urlpattern_pattern.specs.Patterns.{pattern_view}
use Rattle.urlpattern_pattern.proofs.MatchSteps.{test-of_texts}
use Rattle.urlpattern_pattern.proofs.pattern.UrlPattern.test.Goals as goal

pub returns-in_ok-is_matched-in-Some-clause-matched : goal.returns-in_ok-is_matched-in-Some-clause-matched
returns-in_ok-is_matched-in-Some-clause-matched g c =
    let found = rw c.in-Some.is at c.in_ok-texts-in_default.ensures.found in
    test-of_texts g.R.RegExp.answer (pattern_view c.args.self.now) c.args.input (borrowed_texts c.input_texts.result) (Ok c.in_ok-is_matched-in-Some.field-0)
    (found ∙ ap Ok (sym c.input_texts.ensures)) c.in_ok-is_matched-in-Some.ensures.matched
