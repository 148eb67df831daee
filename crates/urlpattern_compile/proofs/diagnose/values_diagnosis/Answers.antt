use Rattle.urlpattern_init.specs.Inheritance.{values_view}
use Rattle.urlpattern_compile.specs.Compiled.{RejectsValues}
use Rattle.urlpattern_compile.proofs.CompiledLemmas.{kept_are_compiled, made_view}
use Rattle.urlpattern_compile.proofs.DiagnosisLemmas.{is_other}
use Rattle.urlpattern_compile.proofs.diagnose.values_diagnosis.Goals as goal

pub diagnosis-requires-clause-rejected : goal.diagnosis-requires-clause-rejected
diagnosis-requires-clause-rejected g c =
    is_other (RejectsValues g.R.RegExp c.args.options.now (values_view c.args.values.now)) c.in-Err.error c.in_ok-error-in-Err.error c.in-Err.ensures.refused c.in_ok-error-in-Err.ensures

pub returns-in-Ok-components-clause-accepted : goal.returns-in-Ok-components-clause-accepted
returns-in-Ok-components-clause-accepted g c =
    (made_view c.in-Ok-components.made, kept_are_compiled g.R.RegExp c.args.options.now (values_view c.args.values.now) c.in-Ok-components.made c.in-Ok-components.ensures.compiled)
