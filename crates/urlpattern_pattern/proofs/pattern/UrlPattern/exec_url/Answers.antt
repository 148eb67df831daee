use Rattle.std.proofs.Common.{ap, subst, sym}
use Rattle.std.specs.Prelude.{IfErr, Ok}
use Rattle.urlpattern_init.specs.declared.init.UrlPatternMatchInput.TheVariants.{Url}
use Rattle.urlpattern_pattern.proofs.MatchSteps.{found-of_texts}
use Rattle.urlpattern_matches.specs.GroupTexts.{borrowed_texts}
use Rattle.urlpattern_pattern.specs.Match.{CopiesMatch}
use Rattle.urlpattern_matches.specs.ResultViews.{result_view}
use Rattle.urlpattern_matches.specs.declared.result.UrlPatternResult.{UrlPatternResult}
use Rattle.urlpattern_pattern.specs.Patterns.{pattern_view}
use Rattle.urlpattern_components.specs.Eight.{Texts}
use Rattle.urlpattern_pattern.proofs.pattern.UrlPattern.exec_url.Goals as goal

pub returns-clause-matched : goal.returns-clause-matched
returns-clause-matched g c =
    found-of_texts g.R.RegExp.answer (pattern_view c.args.self.now) (λ (result : UrlPatternResult). result_view result) (Url c.args.url.now)
    (borrowed_texts c.url_texts.result) c.exec_texts.result (ap Ok (sym c.url_texts.ensures)) c.exec_texts.ensures.matched

pub returns-clause-copied : goal.returns-clause-copied
returns-clause-copied g c =
    subst (λ (texts : Texts). IfErr c.exec_texts.result (λ _. CopiesMatch g.R.RegExp.answer (pattern_view c.args.self.now) texts)) c.url_texts.ensures c.exec_texts.ensures.copied
