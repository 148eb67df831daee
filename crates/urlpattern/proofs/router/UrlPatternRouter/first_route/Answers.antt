use Rattle.std.proofs.Common.{sym, ◌∙◌}
use Rattle.std.proofs.lemmas.Bool.{false≢true}
use Rattle.std.proofs.lemmas.Result.{IfErr-weaker}
use Rattle.urlpattern.proofs.FixedLemmas.{ok-weaker}
use Rattle.urlpattern.proofs.router.UrlPatternRouter.first_route.Goals as goal

pub returns-then-is_head-clause-served : goal.returns-then-is_head-clause-served
returns-then-is_head-clause-served g c =
    ok-weaker _ _ c.first_for_head.result c.first_for_head.ensures.served (λ found is. record { head = λ _. is; other = λ no. absurd (no (c.is_head.ensures.0 c.if-is_head.true)) })

pub returns-then-is_head-clause-asked : goal.returns-then-is_head-clause-asked
returns-then-is_head-clause-asked g c =
    IfErr-weaker c.first_for_head.result _ _ (λ error asks. record { head = λ _. asks; other = λ no. absurd (no (c.is_head.ensures.0 c.if-is_head.true)) }) c.first_for_head.ensures.asked

pub returns-clause-served : goal.returns-clause-served
returns-clause-served g c =
    ok-weaker _ _ c.first_that_takes.result c.first_that_takes.ensures.found (λ found is.
    record { head = λ head. absurd (false≢true (sym c.if-is_head.false ∙ c.is_head.ensures.1 head)); other = λ _. is })

pub returns-clause-asked : goal.returns-clause-asked
returns-clause-asked g c =
    IfErr-weaker c.first_that_takes.result _ _ (λ error asks.
    record { head = λ head. absurd (false≢true (sym c.if-is_head.false ∙ c.is_head.ensures.1 head)); other = λ _. asks })
    c.first_that_takes.ensures.asked
