use Rattle.urlpattern_compare.proofs.AnswerLemmas.{in_none, in_some}
use Rattle.urlpattern_compare.proofs.CommonLemmas.{lacks_by, only_many}
use Rattle.urlpattern_compare.specs.Comparing.{IsKnown, IsUnknownBy}
use Rattle.urlpattern_compare.proofs.lacks.reason_of.Goals as goal

pub returns-in-Some : goal.returns-in-Some
returns-in-Some c =
    lacks_by c.args.component.now c.in-Some.reason (in_some (IsUnknownBy c.args.component.now) c.in_ok-reason.field-0 c.in-Some.reason c.in-Some.is c.in_ok-reason.ensures.reason)

pub returns-in-None : goal.returns-in-None
returns-in-None c =
    only_many c.args.component.now (in_none (IsKnown c.args.component.now) c.in_ok-reason.field-0 c.in-None.is c.in_ok-reason.ensures.known) c.requires.0 c.requires.1
