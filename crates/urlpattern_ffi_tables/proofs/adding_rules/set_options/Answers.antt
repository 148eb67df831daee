use Rattle.urlpattern_ffi_tables.proofs.PolicyLemmas.{on_false, on_true}
use Rattle.urlpattern_ffi_tables.proofs.adding_rules.set_options.Goals as goal

pub set_later-requires : goal.set_later-requires
set_later-requires c = on_true _ _ c.if-has_rules.true c.has_rules.ensures.some

pub set_first-requires : goal.set_first-requires
set_first-requires c = on_false _ _ c.if-has_rules.false c.has_rules.ensures.none
