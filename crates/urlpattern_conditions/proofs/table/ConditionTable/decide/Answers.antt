use Rattle.std.proofs.Common.{◌≡◌, All, List, Some, map, slice_get, subst}
use Rattle.std.proofs.lemmas.List.{length-map}
use Rattle.urlpattern_conditions.proofs.ConditionLemmas.{if-err, opposite, stated}
use Rattle.urlpattern_conditions.proofs.TableLemmas.{asks-first, first-at, none-in-all, none-more, value-at}
use Rattle.urlpattern_conditions.specs.Conditions.{Holds}
use Rattle.urlpattern_conditions.specs.Requests.{request_view}
use Rattle.urlpattern_conditions.specs.Tables.{AsksEngineFirst, IsFirstToHold, rule_conditions}
use Rattle.urlpattern_conditions.specs.declared.table.Rule.{Rule}
use Rattle.urlpattern_conditions.proofs.table.ConditionTable.decide.Goals as goal

pub returns-in_err-holds-clause-asked : goal.returns-in_err-holds-clause-asked
returns-in_err-holds-clause-asked g c =
    if-err c.from_residual.result _ (subst (λ (its : List (Rule g.row.V.Denot g.row.R.Denot)). AsksEngineFirst g.R.RegExp.answer (request_view c.args.request.now) (rule_conditions its)) c.deref-rule-items.ensures.value
    (asks-first g.R.RegExp.answer (request_view c.args.request.now) c.deref-rule-items.result.now c.loop-index.index c.rule-item.result c.loop-index-test.true c.rule-item.is c.loop-index.invariant c.in_err-holds.ensures.asked))

pub returns-then-branch-clause-first : goal.returns-then-branch-clause-first
returns-then-branch-clause-first g c = (
  subst (λ (its : List (Rule g.row.V.Denot g.row.R.Denot)). IsFirstToHold g.R.RegExp.answer (request_view c.args.request.now) (rule_conditions its) c.loop-index.index) c.deref-rule-items.ensures.value
      (first-at g.R.RegExp.answer (request_view c.args.request.now) c.deref-rule-items.result.now c.loop-index.index c.rule-item.result c.loop-index-test.true c.rule-item.is c.loop-index.invariant (stated _ _ c.if-branch.true c.in_ok-holds.ensures.holds)),
  subst (λ (its : List (Rule g.row.V.Denot g.row.R.Denot)). slice_get (map (λ r. r.value) its) c.loop-index.index ≡ Some c.rule-item.result.value) c.deref-rule-items.ensures.value
      (value-at g.R.RegExp.answer (request_view c.args.request.now) c.deref-rule-items.result.now c.loop-index.index c.rule-item.result c.loop-index-test.true c.rule-item.is),
)

pub loop-index-preserved : goal.loop-index-preserved
loop-index-preserved g c =
    none-more g.R.RegExp.answer (request_view c.args.request.now) c.deref-rule-items.result.now c.loop-index.index c.rule-item.result c.loop-index-test.true c.rule-item.is c.loop-index.invariant (opposite _ _ c.if-branch.false c.in_ok-holds.ensures.holds)

pub returns-clause-first : goal.returns-clause-first
returns-clause-first g c =
    subst (λ (its : List (Rule g.row.V.Denot g.row.R.Denot)). All (λ one. ¬ Holds g.R.RegExp.answer (request_view c.args.request.now) one) (rule_conditions its)) c.deref-rule-items.ensures.value
    (none-in-all g.R.RegExp.answer (request_view c.args.request.now) c.deref-rule-items.result.now c.loop-index.index (rw length-map c.loop-index-test.false) c.loop-index.invariant)
