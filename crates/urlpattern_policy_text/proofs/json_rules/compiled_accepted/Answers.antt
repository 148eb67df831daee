use Rattle.std.proofs.Common.{[], inr, subst, sym}
use Rattle.urlpattern_compile.proofs.DiagnosisLemmas.{is_other}
use Rattle.urlpattern_compile.specs.Compiled.{RejectsInit}
use Rattle.urlpattern_diagnosis.specs.declared.diagnosis.Subject.TheVariants as subjects
use Rattle.urlpattern_inputs.specs.declared.options.UrlPatternOptions.{UrlPatternOptions}
use Rattle.urlpattern_policy_text.proofs.DiagnosisLemmas.{shown_whole}
use Rattle.urlpattern_policy_text.specs.PolicyTexts.{rule_options}
use Rattle.urlpattern_syntax.specs.Errors.{MemoryOr, error_view}
use Rattle.urlpattern_syntax.specs.declared.error.Error.{Error}
use Rattle.urlpattern_policy_text.proofs.json_rules.compiled_accepted.Goals as goal

pub returns-in_ok-diagnosis-in-Err-clause-rejected : goal.returns-in_ok-diagnosis-in-Err-clause-rejected
returns-in_ok-diagnosis-in-Err-clause-rejected g c =
    let rejected = is_other (RejectsInit g.R.RegExp c.args.made rule_options) c.in-Err.error c.in_ok-error-in-Err.error
    (subst (λ (options : UrlPatternOptions). MemoryOr (RejectsInit g.R.RegExp c.args.made options) c.in-Err.error) c.rule_options.ensures c.in-Err.ensures.refused) c.in_ok-error-in-Err.ensures in
    let shown = c.in_ok-diagnosis-in-Err.ensures in (
      subst (λ (error : Error). RejectsInit g.R.RegExp c.args.made rule_options (error_view error)) (sym shown.error) rejected,
      inr (c.requires, shown_whole subjects.Whole [] c.in_ok-diagnosis-in-Err.diagnosis shown.subject shown.text shown.fault shown.within),
    )
