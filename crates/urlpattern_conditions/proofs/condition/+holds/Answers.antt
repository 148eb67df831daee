use Rattle.std.proofs.Common.{◌∙◌, List, IfOk, ap, subst, sym}
use Rattle.urlpattern_matches.specs.GroupTexts.{borrowed_texts}
use Rattle.urlpattern_pattern.specs.Patterns.{pattern_view}
use Rattle.urlpattern_pattern.specs.UrlPatterns.{UrlPattern}
use Rattle.urlpattern_conditions.specs.Conditions.{ConditionView, EachHolds, Holds, SayWhether, SomeAskEngine, SomeHolds, of_url}
use Rattle.urlpattern_conditions.specs.ConditionViews.{condition_view, conditions_view}
use Rattle.urlpattern_conditions.specs.Requests.{request_view}
use Rattle.urlpattern_conditions.specs.declared.condition.Condition.{Condition}
use Rattle.urlpattern_conditions.proofs.ConditionLemmas.{asks, each-fails, each-step, if-err, opposite, some-found, some-step, stated, tested-result, view-Url}
use Rattle.urlpattern_conditions.proofs.condition.+holds.Goals as goal

pub Condition::holds-returns-in-Url-clause-holds : goal.Condition::holds-returns-in-Url-clause-holds
Condition::holds-returns-in-Url-clause-holds g t c =
    let is = ap condition_view c.in-Url.is ∙ view-Url c.in-Url.pattern ∙ ap (λ (p : UrlPattern g.row.R.Denot). of_url (pattern_view p)) (sym c.deref.ensures) in
    subst (λ (view : ConditionView g.row.R.Denot). IfOk c.test_texts.result (SayWhether (Holds g.R.RegExp.answer (request_view c.args.request.now) view))) (sym is)
    (tested-result g.R.RegExp.answer (pattern_view c.deref.result.now) (borrowed_texts c.args.request.now.texts.now) c.test_texts.result c.test_texts.ensures.matched)

pub each_holds-returns-in_err-holds-clause-asked : goal.each_holds-returns-in_err-holds-clause-asked
each_holds-returns-in_err-holds-clause-asked g t c =
    if-err c.from_residual.result _ (subst (λ (its : List (Condition g.row.R.Denot)). SomeAskEngine g.R.RegExp.answer (request_view c.args.request.now) (conditions_view its)) c.deref-condition-items.ensures.value
    (asks g.R.RegExp.answer (request_view c.args.request.now) c.deref-condition-items.result.now c.loop-condition.condition-index c.condition-item.result c.loop-condition-test.true c.condition-item.is c.in_err-holds.ensures.asked))

pub each_holds-returns-then-not-branch-clause-holds : goal.each_holds-returns-then-not-branch-clause-holds
each_holds-returns-then-not-branch-clause-holds g t c =
    subst (λ (its : List (Condition g.row.R.Denot)). ¬ EachHolds g.R.RegExp.answer (request_view c.args.request.now) (conditions_view its)) c.deref-condition-items.ensures.value
    (each-fails g.R.RegExp.answer (request_view c.args.request.now) c.deref-condition-items.result.now c.loop-condition.condition-index c.condition-item.result c.loop-condition-test.true c.condition-item.is
    (opposite _ _ c.if-not-branch.true c.in_ok-holds.ensures.holds))

pub each_holds-loop-condition-preserved : goal.each_holds-loop-condition-preserved
each_holds-loop-condition-preserved g t c =
    each-step g.R.RegExp.answer (request_view c.args.request.now) c.deref-condition-items.result.now c.loop-condition.condition-index c.condition-item.result c.loop-condition-test.true c.condition-item.is
    c.loop-condition.invariant (stated _ _ c.if-not-branch.false c.in_ok-holds.ensures.holds)

pub some_holds-returns-in_err-holds-clause-asked : goal.some_holds-returns-in_err-holds-clause-asked
some_holds-returns-in_err-holds-clause-asked g t c =
    if-err c.from_residual.result _ (subst (λ (its : List (Condition g.row.R.Denot)). SomeAskEngine g.R.RegExp.answer (request_view c.args.request.now) (conditions_view its)) c.deref-condition-items.ensures.value
    (asks g.R.RegExp.answer (request_view c.args.request.now) c.deref-condition-items.result.now c.loop-condition.condition-index c.condition-item.result c.loop-condition-test.true c.condition-item.is c.in_err-holds.ensures.asked))

pub some_holds-returns-then-branch-clause-holds : goal.some_holds-returns-then-branch-clause-holds
some_holds-returns-then-branch-clause-holds g t c =
    subst (λ (its : List (Condition g.row.R.Denot)). SomeHolds g.R.RegExp.answer (request_view c.args.request.now) (conditions_view its)) c.deref-condition-items.ensures.value
    (some-found g.R.RegExp.answer (request_view c.args.request.now) c.deref-condition-items.result.now c.loop-condition.condition-index c.condition-item.result c.loop-condition-test.true c.condition-item.is
    (stated _ _ c.if-branch.true c.in_ok-holds.ensures.holds))

pub some_holds-loop-condition-preserved : goal.some_holds-loop-condition-preserved
some_holds-loop-condition-preserved g t c =
    some-step g.R.RegExp.answer (request_view c.args.request.now) c.deref-condition-items.result.now c.loop-condition.condition-index c.condition-item.result c.loop-condition-test.true c.condition-item.is
    c.loop-condition.invariant (opposite _ _ c.if-branch.false c.in_ok-holds.ensures.holds)
