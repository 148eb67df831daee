use Rattle.std.proofs.Common.{sym, subst}
use Rattle.std.proofs.lemmas.Result.{IfOk-weaker}
use Rattle.urlpattern_diagnosis.specs.Faults.{IsFaultIn, IsUrlFault}
use Rattle.urlpattern_diagnosis.proofs.diagnosis.Diagnosis.whole.Goals as goal

pub returns-clause-fault : goal.returns-clause-fault
returns-clause-fault c =
    IfOk-weaker c.of_fault.result _ _ (λ diagnosis same. subst (IsUrlFault c.args.text.now) (sym same) c.of_url-fault.ensures.fault) c.of_fault.ensures.fault

pub returns-clause-within : goal.returns-clause-within
returns-clause-within c =
    IfOk-weaker c.of_fault.result _ _ (λ diagnosis same. subst (IsFaultIn c.args.text.now) (sym same) c.of_url-fault.ensures.within) c.of_fault.ensures.fault
