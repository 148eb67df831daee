use Rattle.std.proofs.lemmas.Result.{IfErr-weaker}
use Rattle.urlpattern.proofs.FixedLemmas.{ok-weaker}
use Rattle.urlpattern.proofs.NextLemmas.{asks-of_all, first-of_all}
use Rattle.urlpattern_matches.specs.GroupTexts.{borrowed_texts}
use Rattle.urlpattern.specs.FirstMatch.{first_captures_view, patterns_view}
use Rattle.urlpattern.proofs.list.UrlPatternList.first.Goals as goal

pub returns-clause-first : goal.returns-clause-first
returns-clause-first g c =
    ok-weaker _ _ c.first_from.result c.first_from.ensures.first
    (λ found is. first-of_all g.R.RegExp.answer (borrowed_texts c.args.texts.now) (patterns_view c.args.self.now) (first_captures_view found) is)

pub returns-clause-asked : goal.returns-clause-asked
returns-clause-asked g c =
    IfErr-weaker c.first_from.result _ _
    (λ error asks. asks-of_all g.R.RegExp.answer (borrowed_texts c.args.texts.now) (patterns_view c.args.self.now) asks) c.first_from.ensures.asked
