use Rattle.urlpattern_conditions.proofs.TableLemmas.{NoneBefore}
use Rattle.urlpattern_conditions.specs.Requests.{request_view}
use Rattle.urlpattern_conditions.proofs.table.ConditionTable.decide.Given as goal

abbrev pub invariant-loop-index : goal.invariant-loop-index
invariant-loop-index g l = NoneBefore g.R.RegExp.answer (request_view l.request) l.rule-items l.index
