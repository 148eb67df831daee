use Rattle.std.proofs.Common.{IfOk, ◌∙◌, subst}
use Rattle.urlpattern_conditions.specs.Requests.{RequestView}
use Rattle.urlpattern_conditions.specs.Tables.{DecidesBy}
use Rattle.urlpattern_matches.specs.GroupTexts.{borrowed_texts}
use Rattle.urlpattern_route_rules.proofs.FetchLemmas.{fetch-seen}
use Rattle.urlpattern_route_rules.proofs.rules.RouterRules.decide.Goals as goal

pub returns-clause-first : goal.returns-clause-first
returns-clause-first g c =
    subst (λ (request : RequestView). IfOk c.decide_with.result (DecidesBy g.R.RegExp.answer request c.args.self.now.table.rules.items))
    (fetch-seen c.args.request.now (borrowed_texts c.url_texts-texts.result) c.deref.result.now c.status-status.result.now c.url_texts-texts.ensures (c.deref.ensures ∙ c.in_ok-method.ensures) c.status-status.ensures)
    c.decide_with.ensures.first
