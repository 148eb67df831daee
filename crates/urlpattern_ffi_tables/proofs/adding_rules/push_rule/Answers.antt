use Rattle.urlpattern_ffi_tables.proofs.PolicyLemmas.{on_false, on_true}
use Rattle.urlpattern_ffi_tables.proofs.adding_rules.push_rule.Goals as goal

pub push_later-requires : goal.push_later-requires
push_later-requires c = on_true _ _ c.if-has_rules.true c.has_rules.ensures.some

pub push_first-requires : goal.push_first-requires
push_first-requires c = on_false _ _ c.if-has_rules.false c.has_rules.ensures.none
