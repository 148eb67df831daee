use Rattle.std.proofs.Common.{ap, sym}
use Rattle.std.specs.Prelude.{Ok}
use Rattle.urlpattern_init.specs.declared.init.UrlPatternMatchInput.TheVariants.{Url}
use Rattle.urlpattern_pattern.proofs.MatchSteps.{test-of_texts}
use Rattle.urlpattern_matches.specs.GroupTexts.{borrowed_texts}
use Rattle.urlpattern_pattern.specs.Patterns.{pattern_view}
use Rattle.urlpattern_pattern.proofs.pattern.UrlPattern.test_url.Goals as goal

pub returns-clause-matched : goal.returns-clause-matched
returns-clause-matched g c =
    test-of_texts g.R.RegExp.answer (pattern_view c.args.self.now) (Url c.args.url.now) (borrowed_texts c.url_texts.result) (Ok c.in_ok-is_matched.field-0)
    (ap Ok (sym c.url_texts.ensures)) c.in_ok-is_matched.ensures.matched
