use Rattle.std.proofs.Common.{Some, subst, sym}
use Rattle.urlpattern_compile.proofs.DiagnosisLemmas.{is_other}
use Rattle.urlpattern_diagnosis.specs.declared.diagnosis.Subject.TheVariants as subjects
use Rattle.urlpattern_policy_text.proofs.DiagnosisLemmas.{shown_whole}
use Rattle.urlpattern_policy_text.specs.PolicyTexts.{RejectsBase}
use Rattle.urlpattern_syntax.specs.Errors.{error_view}
use Rattle.urlpattern_syntax.specs.declared.error.Error.{Error}
use Rattle.urlpattern_policy_text.proofs.outcome.parsed_text.Goals as goal

pub returns-in_ok-diagnosis-in-Err-clause-rejected : goal.returns-in_ok-diagnosis-in-Err-clause-rejected
returns-in_ok-diagnosis-in-Err-clause-rejected c =
    let rejected = is_other (RejectsBase (Some c.args.text.now)) c.in-Err.error c.in_ok-error-in-Err.error c.in-Err.ensures.err c.in_ok-error-in-Err.ensures in
    let shown = c.in_ok-diagnosis-in-Err.ensures in (
      subst (λ (error : Error). RejectsBase (Some c.args.text.now) (error_view error)) (sym shown.error) rejected,
      shown_whole subjects.Base c.args.text.now c.in_ok-diagnosis-in-Err.diagnosis shown.subject shown.text shown.fault shown.within,
    )
