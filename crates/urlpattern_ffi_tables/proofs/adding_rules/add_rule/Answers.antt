use Rattle.std.proofs.Common.{inl}
use Rattle.urlpattern_ffi_tables.proofs.adding_rules.add_rule.Goals as goal

pub returns-in-Ok : goal.returns-in-Ok
returns-in-Ok c = inl (c.in-Ok.pattern, c.in-Ok.ensures.compiled, c.push_rule.ensures)
