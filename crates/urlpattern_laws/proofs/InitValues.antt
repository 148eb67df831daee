-- Each init has values when it is processed as a pattern.
use Rattle.std.proofs.Common.{refl}
use Rattle.urlpattern_compile.specs.Compiled.{without_default_port}
use Rattle.urlpattern_init.proofs.InheritanceLemmas.{pattern-processed}
use Rattle.urlpattern_init.specs.Inheritance.{values_view}
use Rattle.urlpattern_laws.specs.Outcomes.{InitsHaveValues}

pub inits_have_values : InitsHaveValues
inits_have_values init =
    let (values, is) = pattern-processed (values_view init) init.base_url in
    (without_default_port values, rw is refl)
