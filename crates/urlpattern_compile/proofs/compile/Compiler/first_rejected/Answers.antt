use Rattle.urlpattern_compile.specs.Compiled.{IsComponentRejected}
use Rattle.urlpattern_compile.specs.CompilerSteps.{compiled_values, settings_by}
use Rattle.urlpattern_compile.proofs.DiagnosisLemmas.{is_other, protocol_refused}
use Rattle.urlpattern_components.specs.declared.eight.ComponentName.TheVariants.{Protocol}
use Rattle.std.proofs.Common.{false}
use Rattle.urlpattern_compile.proofs.compile.Compiler.first_rejected.Goals as goal

pub returns-in_ok-error-in-Err-clause-rejected : goal.returns-in_ok-error-in-Err-clause-rejected
returns-in_ok-error-in-Err-clause-rejected g c =
    protocol_refused g.R.RegExp c.args.self.now.options.now (compiled_values c.args.self.now) c.in_ok-error-in-Err.error
    (is_other (IsComponentRejected g.R.RegExp (settings_by c.args.self.now false Protocol)) c.in-Err.error c.in_ok-error-in-Err.error c.in-Err.ensures.refused c.in_ok-error-in-Err.ensures)
