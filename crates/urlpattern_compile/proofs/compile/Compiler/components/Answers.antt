use Rattle.urlpattern_compile.proofs.CompiledLemmas.{are_kept, kept_compiled, refused_behind}
use Rattle.urlpattern_compile.specs.CompilerSteps.{compiled_values}
use Rattle.urlpattern_matcher.specs.Components.{component_view}
use Rattle.urlpattern_compile.proofs.compile.Compiler.components.Goals as goal

pub returns-clause-compiled : goal.returns-clause-compiled
returns-clause-compiled g c =
    are_kept g.R.RegExp
    c.args.self.now.options.now (compiled_values c.args.self.now) c.in_ok-hierarchical.hierarchical
    (component_view c.in_ok-protocol.protocol.component) c.after_protocol.result
    c.in_ok-hierarchical.ensures.path_kind c.after_protocol.ensures.protocol c.after_protocol.ensures.compiled

pub returns-clause-refused : goal.returns-clause-refused
returns-clause-refused g c =
    refused_behind g.R.RegExp
    c.args.self.now.options.now (compiled_values c.args.self.now) c.in_ok-hierarchical.hierarchical
    (component_view c.in_ok-protocol.protocol.component) c.after_protocol.result
    (kept_compiled g.R.RegExp _ c.in_ok-protocol.protocol c.in_ok-protocol.ensures.compiled) c.in_ok-hierarchical.ensures.path_kind c.after_protocol.ensures.refused
