use Rattle.urlpattern_matcher.specs.Components.{component_view}
use Rattle.urlpattern_compile.specs.CompilerSteps.{compiled_values}
use Rattle.urlpattern_compile.proofs.CompiledLemmas.{kept_compiled}
use Rattle.urlpattern_compile.proofs.DiagnosisLemmas.{all_accepted, later_refused}
use Rattle.urlpattern_compile.proofs.compile.Compiler.first_rejected_after.Goals as goal

pub returns-in-Ok-clause-rejected : goal.returns-in-Ok-clause-rejected
returns-in-Ok-clause-rejected g c =
    later_refused g.R.RegExp c.args.self.now.options.now (compiled_values c.args.self.now) c.in-Ok.hierarchical (component_view c.args.protocol.component)
    (kept_compiled g.R.RegExp _ c.args.protocol c.requires)
    c.in-Ok.ensures.path_kind c.first_rejected_of.result c.first_rejected_of.ensures.first c.first_rejected_of.ensures.refused

pub returns-in-Ok-clause-accepted : goal.returns-in-Ok-clause-accepted
returns-in-Ok-clause-accepted g c =
    all_accepted g.R.RegExp c.args.self.now.options.now (compiled_values c.args.self.now) c.in-Ok.hierarchical (component_view c.args.protocol.component)
    (kept_compiled g.R.RegExp _ c.args.protocol c.requires)
    c.in-Ok.ensures.path_kind c.first_rejected_of.result c.first_rejected_of.ensures.accepted
