use Rattle.std.proofs.lemmas.Result.{err_from_is_err_and}
use Rattle.urlpattern_init.proofs.InheritanceLemmas.{pattern-memory}
use Rattle.urlpattern_init.specs.Inheritance.{values_view}
use Rattle.urlpattern_compile.proofs.processed_init.pattern_values.Goals as goal

pub returns-in_err-values-clause-memory : goal.returns-in_err-values-clause-memory
returns-in_err-values-clause-memory c =
    let p = err_from_is_err_and c.from_residual.result c.from_residual.ensures.1 in
    rw (p.1, p.2) (pattern-memory (values_view c.args.init.now) c.args.init.now.base_url c.in_err-values.field-0.0 c.in_err-values.ensures.err)
