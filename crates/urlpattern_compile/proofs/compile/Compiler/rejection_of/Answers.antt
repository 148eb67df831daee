use Rattle.std.proofs.Common.{refl}
use Rattle.urlpattern_compile.specs.Compiled.{IsComponentRejected}
use Rattle.urlpattern_compile.specs.CompilerSteps.{settings_by}
use Rattle.urlpattern_compile.proofs.CompiledLemmas.{one_compiled}
use Rattle.urlpattern_compile.proofs.DiagnosisLemmas.{is_other}
use Rattle.urlpattern_compile.proofs.compile.Compiler.rejection_of.Goals as goal

pub returns-in_ok-error-in-Err-clause-refused : goal.returns-in_ok-error-in-Err-clause-refused
returns-in_ok-error-in-Err-clause-refused g c = (
  refl,
  is_other (IsComponentRejected g.R.RegExp (settings_by c.args.self.now c.args.hierarchical c.args.component)) c.in-Err.error c.in_ok-error-in-Err.error c.in-Err.ensures.refused c.in_ok-error-in-Err.ensures,
)

pub returns-in-Ok-clause-compiled : goal.returns-in-Ok-clause-compiled
returns-in-Ok-clause-compiled g c = one_compiled g.R.RegExp _ c.in-Ok.compiled c.in-Ok.ensures.compiled
