use Rattle.std.proofs.Common.{inr, refl}
use Rattle.urlpattern_ffi_tables.proofs.PolicyLemmas.{on_false, on_true}
use Rattle.urlpattern_ffi_tables.proofs.adding_routes.push_route.Goals as goal

pub returns-in_default-from_utf8 : goal.returns-in_default-from_utf8
returns-in_default-from_utf8 c = (inr c.in_default-from_utf8.ensures.cases.0, refl)

pub insert_later-requires : goal.insert_later-requires
insert_later-requires c = on_true _ _ c.if-has_routes.true c.has_routes.ensures.some

pub insert_first-requires : goal.insert_first-requires
insert_first-requires c = on_false _ _ c.if-has_routes.false c.has_routes.ensures.none
