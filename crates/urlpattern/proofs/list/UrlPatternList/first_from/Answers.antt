use Rattle.std.proofs.lemmas.Result.{IfErr-weaker}
use Rattle.urlpattern.proofs.FixedLemmas.{ok-weaker}
use Rattle.urlpattern.proofs.NextLemmas.{asks-earlier, first-earlier}
use Rattle.urlpattern_matches.specs.GroupTexts.{borrowed_texts}
use Rattle.urlpattern.specs.FirstMatch.{first_captures_view, patterns_view}
use Rattle.urlpattern.proofs.list.UrlPatternList.first_from.Goals as goal

pub returns-in-Some-clause-first : goal.returns-in-Some-clause-first
returns-in-Some-clause-first g c =
    let texts = borrowed_texts c.args.texts.now in
    let (later, inside) = c.in-Some.ensures.within in
    ok-weaker _ _ c.first_from_candidate.result c.first_from_candidate.ensures.first
    (λ found is. first-earlier g.R.RegExp.answer texts (patterns_view c.args.self.now) c.args.from c.in-Some.index (first_captures_view found) later (c.in-Some.ensures.passed texts c.fill.ensures) is)

pub returns-in-Some-clause-asked : goal.returns-in-Some-clause-asked
returns-in-Some-clause-asked g c =
    let texts = borrowed_texts c.args.texts.now in
    IfErr-weaker c.first_from_candidate.result _ _
    (λ error asks. asks-earlier g.R.RegExp.answer texts (patterns_view c.args.self.now) c.args.from c.in-Some.index c.in-Some.ensures.within.0 (c.in-Some.ensures.passed texts c.fill.ensures) asks)
    c.first_from_candidate.ensures.asked

pub returns-in-None-clause-first : goal.returns-in-None-clause-first
returns-in-None-clause-first g c = c.in-None.ensures.passed (borrowed_texts c.args.texts.now) c.fill.ensures
