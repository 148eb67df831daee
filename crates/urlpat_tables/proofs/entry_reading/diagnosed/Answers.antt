use Rattle.std.proofs.Common.{inl, inr, subst, sym}
use Rattle.std.specs.Prelude.{option_copied}
use Rattle.urlpat_matching.specs.PatternWords.{RejectsPatternOf}
use Rattle.urlpattern_diagnosis.specs.declared.diagnosis.Subject.TheVariants as subjects
use Rattle.urlpattern_policy_text.proofs.DiagnosisLemmas.{shown_whole}
use Rattle.urlpattern_syntax.specs.Errors.{error_view}
use Rattle.urlpattern_syntax.specs.declared.error.Error.{Error}
use Rattle.urlpat_tables.proofs.entry_reading.diagnosed.Goals as goal

pub returns-in-Some : goal.returns-in-Some
returns-in-Some c = (rw c.in-Some.is at c.in_ok-found.ensures.refused, inl (rw c.in-Some.is at c.in_ok-found.ensures.shows, rw c.in-Some.is at c.in_ok-found.ensures.within))

pub returns-in_ok-diagnosis-in-None : goal.returns-in_ok-diagnosis-in-None
returns-in_ok-diagnosis-in-None c =
    let shown = c.in_ok-diagnosis-in-None.ensures in (
      subst (λ (error : Error). RejectsPatternOf c.args.how.ignore_case c.args.pattern.now (option_copied c.args.how.base) (error_view error)) (sym shown.error) c.requires,
      inr (
        rw c.in-None.is at c.in_ok-found.ensures.accepted,
        shown_whole subjects.Whole c.args.pattern.now c.in_ok-diagnosis-in-None.diagnosis shown.subject shown.text shown.fault shown.within,
      ),
    )
