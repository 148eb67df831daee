use Rattle.std.proofs.Common.{subst}
use Rattle.std.proofs.lemmas.Option.{IfSome_then}
use Rattle.std.proofs.lemmas.Result.{IfErr-weaker, IfOk-weaker}
use Rattle.std.specs.Prelude.{Option}
use Rattle.urlpattern_meaning.specs.Matching.{Returns}
use Rattle.urlpattern_meaning.specs.PartMeaning.{Captures}
use Rattle.urlpattern_pattern.proofs.MatchSteps.{asks-an_engine}
use Rattle.urlpattern_matches.specs.GroupTexts.{borrowed_texts}
use Rattle.urlpattern_pattern.specs.Patterns.{pattern_view}
use Rattle.urlpattern_pattern.proofs.pattern.UrlPattern.group_captures.Goals as goal
use Rattle.urlpattern_components.specs.Eight.{at}

pub returns-clause-answers : goal.returns-clause-answers
returns-clause-answers g c =
    IfOk-weaker c.finish_looks.result _ _ (λ found some. IfSome_then found some (λ captures answered name.
    subst
    (λ (found : Option Captures). Returns g.R.RegExp.answer (pattern_view c.args.self.now name).matcher (at (borrowed_texts c.args.texts.now) name) found)
    (answered name) (c.in-Some.ensures.some name))) c.finish_looks.ensures.some

pub returns-clause-asked : goal.returns-clause-asked
returns-clause-asked g c =
    IfErr-weaker c.finish_looks.result _ _
    (λ error asking. asks-an_engine g.R.RegExp.answer (pattern_view c.args.self.now) (borrowed_texts c.args.texts.now) c.in-Some.looks c.in-Some.ensures.some c.in-Some.ensures.asked asking)
    c.finish_looks.ensures.asked
