use Rattle.std.proofs.Common.{◌∙◌, ap}
use Rattle.urlpattern_ffi_tables.proofs.router_box.has_routes.Goals as goal

pub returns-in-Some-clause-some : goal.returns-in-Some-clause-some
returns-in-Some-clause-some c =
    let (same, some) = c.in-Some.ensures.some in
    λ none. some (ap (λ router. router.routes) same ∙ none)
