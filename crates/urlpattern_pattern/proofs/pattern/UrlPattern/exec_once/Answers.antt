use Rattle.std.specs.Prelude.{option_map}
use Rattle.urlpattern_printing.proofs.OutcomeLemmas.{if_ok-map}
use Rattle.urlpattern_pattern.proofs.ByTextLemmas.{executed_by_text}
use Rattle.urlpattern_pattern.proofs.MeaningLemmas.{executed_of}
use Rattle.urlpattern_matches.specs.ResultViews.{result_view}
use Rattle.urlpattern_pattern.specs.Patterns.{pattern_view}
use Rattle.urlpattern_pattern.proofs.pattern.UrlPattern.exec_once.Goals as goal

pub returns-clause-executed : goal.returns-clause-executed
returns-clause-executed g c =
    let pattern = pattern_view c.in_ok-pattern.pattern in
    if_ok-map _ _ c.exec-found.result
    (λ found matched. executed_by_text g.R.RegExp c.args.init c.args.options c.args.input pattern
    (option_map result_view found) c.in_ok-pattern.ensures.compiled (executed_of g.R.RegExp.answer pattern c.args.input found matched))
    c.exec-found.ensures.matched
