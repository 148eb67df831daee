use Rattle.std.proofs.Common.{ap, sym, ◌∙◌}
use Rattle.std.specs.Prelude.{◌≡◌, Ok}
use Rattle.urlpattern_pattern.proofs.MatchSteps.{found-of_texts}
use Rattle.urlpattern_matches.specs.GroupTexts.{borrowed_texts}
use Rattle.urlpattern_matches.specs.ResultViews.{result_view}
use Rattle.urlpattern_matches.specs.declared.result.UrlPatternResult.{UrlPatternResult}
use Rattle.urlpattern_matches.specs.MatchInput.{input_texts}
use Rattle.urlpattern_pattern.specs.Patterns.{pattern_view}
use Rattle.urlpattern_pattern.proofs.pattern.UrlPattern.exec.Goals as goal

pub returns-in-Some-clause-matched : goal.returns-in-Some-clause-matched
returns-in-Some-clause-matched g c =
    let texts = borrowed_texts c.input_texts.result in
    let found = rw c.in-Some.is at c.in_ok-texts-in_default.ensures.found in
    let are_texts : input_texts c.args.input ≡ Ok texts = found ∙ ap Ok (sym c.input_texts.ensures) in
    found-of_texts g.R.RegExp.answer (pattern_view c.args.self.now) (λ (result : UrlPatternResult). result_view result) c.args.input texts c.exec_texts.result
    are_texts c.exec_texts.ensures.matched
