use Rattle.std.proofs.Common.{inl, inr, subst, sym}
use Rattle.std.specs.Prelude.{option_copied}
use Rattle.std.specs.Str.{chars}
use Rattle.urlpattern_compile.specs.Diagnoses.{AcceptsPatternOfText, ShowsGiven}
use Rattle.urlpattern_compile.specs.FromString.{RejectsPatternOfText}
use Rattle.urlpattern_diagnosis.specs.declared.diagnosis.Subject.TheVariants as subjects
use Rattle.urlpattern_inputs.specs.declared.options.UrlPatternOptions.{UrlPatternOptions}
use Rattle.urlpattern_policy_text.proofs.DiagnosisLemmas.{shown_whole}
use Rattle.urlpattern_policy_text.specs.PolicyTexts.{RejectsRule}
use Rattle.urlpattern_syntax.specs.Errors.{error_view}
use Rattle.urlpattern_syntax.specs.declared.error.Error.{Error}
use Rattle.urlpattern_policy_text.proofs.outcome.diagnosed.Goals as goal

pub returns-in-Some : goal.returns-in-Some
returns-in-Some g c = (
  subst (λ (options : UrlPatternOptions). RejectsPatternOfText g.R.RegExp (chars c.args.text.now) (option_copied c.args.base) options (error_view c.in-Some.diagnosis.error)) c.rule_options.ensures
      (rw c.in-Some.is at c.in_ok-found.ensures.refused),
  inl (
    subst (λ (options : UrlPatternOptions). ShowsGiven g.R.RegExp c.args.text.now (option_copied c.args.base) options c.in-Some.diagnosis) c.rule_options.ensures (rw c.in-Some.is at c.in_ok-found.ensures.shows),
    rw c.in-Some.is at c.in_ok-found.ensures.within,
  ),
)

pub returns-in_ok-diagnosis-in-None : goal.returns-in_ok-diagnosis-in-None
returns-in_ok-diagnosis-in-None g c =
    let shown = c.in_ok-diagnosis-in-None.ensures in (
      subst (λ (error : Error). RejectsRule g.R.RegExp (option_copied c.args.base) c.args.text.now (error_view error)) (sym shown.error) c.requires,
      inr (
        subst (λ (options : UrlPatternOptions). AcceptsPatternOfText g.R.RegExp (chars c.args.text.now) (option_copied c.args.base) options) c.rule_options.ensures (rw c.in-None.is at c.in_ok-found.ensures.accepted),
        shown_whole subjects.Whole c.args.text.now c.in_ok-diagnosis-in-None.diagnosis shown.subject shown.text shown.fault shown.within,
      ),
    )
