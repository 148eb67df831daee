use Rattle.urlpattern_compile.proofs.CompiledLemmas.{is_kept, is_refused}
use Rattle.urlpattern_init.specs.Inheritance.{values_view}
use Rattle.urlpattern_compile.proofs.compile.compile_init.Goals as goal

pub returns-clause-compiled : goal.returns-clause-compiled
returns-clause-compiled g c =
    is_kept g.R.RegExp c.args.init c.args.options
    (values_view c.in_ok-values.values) c.compile_values-components.result c.in_ok-values.ensures.ok c.compile_values-components.ensures.compiled

pub returns-clause-refused : goal.returns-clause-refused
returns-clause-refused g c =
    is_refused g.R.RegExp c.args.init c.args.options
    (values_view c.in_ok-values.values) c.compile_values-components.result c.in_ok-values.ensures.ok c.compile_values-components.ensures.refused
