use Rattle.std.proofs.Common.{subst}
use Rattle.urlpattern_pattern.proofs.Results.{if_err}
use Rattle.urlpattern.specs.FirstMatch.{CallsEngineBeforeMatch, IsFirstMatchOf, first_captures_view, patterns_view}
use Rattle.urlpattern.proofs.list.UrlPatternList.first_captures_of_input.Goals as goal
use Rattle.urlpattern_components.specs.Eight.{Texts}

pub returns-clause-first : goal.returns-clause-first
returns-clause-first g c =
    subst (λ (texts : Texts). IsFirstMatchOf g.R.RegExp.answer (patterns_view c.args.self.now) texts (first_captures_view c.in_ok-first.field-0))
    c.input_texts.ensures c.in_ok-first.ensures.first

pub returns-in_err-first-clause-asked : goal.returns-in_err-first-clause-asked
returns-in_err-first-clause-asked g c =
    if_err _ c.from_residual.result
    (subst (λ (texts : Texts). CallsEngineBeforeMatch g.R.RegExp.answer (patterns_view c.args.self.now) texts) c.input_texts.ensures c.in_err-first.ensures.asked)
