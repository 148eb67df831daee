use Rattle.std.proofs.Common.{subst, sym}
use Rattle.std.specs.Prelude.{MatchOption}
use Rattle.urlpattern_matches.specs.BorrowedMatches.{pattern_captures_view}
use Rattle.urlpattern_pattern.specs.Match.{IsMatchOf, DoesNotMatch}
use Rattle.urlpattern_pattern.specs.Patterns.{pattern_view}
use Rattle.urlpattern_pattern.proofs.pattern.UrlPattern.captures_of_input.Goals as goal
use Rattle.urlpattern_components.specs.Eight.{Texts}

pub returns-clause-matched : goal.returns-clause-matched
returns-clause-matched g c =
    let answer = g.R.RegExp.answer in
    let pattern = pattern_view c.args.self.now in
    subst (λ (texts : Texts). MatchOption c.in_ok-match_of_texts.field-0 (DoesNotMatch answer pattern texts) (λ captures. IsMatchOf answer pattern texts (pattern_captures_view captures)))
    c.input_texts.ensures c.in_ok-match_of_texts.ensures.matched

pub returns-clause-groups : goal.returns-clause-groups
returns-clause-groups g c = rw (sym c.input_texts.ensures) c.in_ok-match_of_texts.ensures.groups
