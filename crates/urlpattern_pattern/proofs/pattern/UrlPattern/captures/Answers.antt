use Rattle.std.proofs.Common.{ap, sym}
use Rattle.std.specs.Prelude.{Ok}
use Rattle.urlpattern_init.specs.declared.init.UrlPatternMatchInput.TheVariants.{Url}
use Rattle.urlpattern_pattern.proofs.MatchSteps.{found-of_texts}
use Rattle.urlpattern_matches.specs.BorrowedMatches.{pattern_captures_view}
use Rattle.urlpattern_matches.specs.GroupTexts.{borrowed_texts}
use Rattle.urlpattern_pattern.specs.Patterns.{pattern_view}
use Rattle.urlpattern_matches.specs.declared.captures.UrlPatternCaptures.{UrlPatternCaptures}
use Rattle.urlpattern_pattern.proofs.pattern.UrlPattern.captures.Goals as goal

pub returns-clause-matched : goal.returns-clause-matched
returns-clause-matched g c =
    found-of_texts g.R.RegExp.answer (pattern_view c.args.self.now) (λ (found : UrlPatternCaptures). pattern_captures_view found) (Url c.args.url.now)
    (borrowed_texts c.url_texts.result) (Ok c.in_ok-match_of_texts.field-0) (ap Ok (sym c.url_texts.ensures)) c.in_ok-match_of_texts.ensures.matched

pub returns-clause-groups : goal.returns-clause-groups
returns-clause-groups g c =
    rw (sym c.url_texts.ensures) c.in_ok-match_of_texts.ensures.groups
