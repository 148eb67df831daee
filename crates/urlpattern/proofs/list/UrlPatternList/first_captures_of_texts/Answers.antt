use Rattle.urlpattern_pattern.proofs.Results.{if_err}
use Rattle.urlpattern.proofs.list.UrlPatternList.first_captures_of_texts.Goals as goal

pub returns-in_err-first-clause-asked : goal.returns-in_err-first-clause-asked
returns-in_err-first-clause-asked g c = if_err _ c.from_residual.result c.in_err-first.ensures.asked
