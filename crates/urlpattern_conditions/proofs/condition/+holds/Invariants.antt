use Rattle.std.proofs.Common.{take}
use Rattle.urlpattern_conditions.specs.ConditionViews.{conditions_view}
use Rattle.urlpattern_conditions.specs.Conditions.{EachHolds, SomeHolds}
use Rattle.urlpattern_conditions.specs.Requests.{request_view}
use Rattle.urlpattern_conditions.proofs.condition.+holds.Given as goal

abbrev pub invariant-each_holds-loop-condition : goal.invariant-each_holds-loop-condition
invariant-each_holds-loop-condition g l =
    EachHolds g.R.RegExp.answer (request_view l.request) (conditions_view (take l.condition-index l.condition-items))

abbrev pub invariant-some_holds-loop-condition : goal.invariant-some_holds-loop-condition
invariant-some_holds-loop-condition g l =
    ¬ SomeHolds g.R.RegExp.answer (request_view l.request) (conditions_view (take l.condition-index l.condition-items))
