use Rattle.std.proofs.Common.{◌∙◌, subst, sym}
use Rattle.urlpattern_ffi.specs.declared.status.Status.{Status}
use Rattle.urlpattern_ffi_tables.proofs.RouteLemmas.{named_refused, not_empty}
use Rattle.urlpattern_ffi_tables.specs.AddedRoutes.{insert_status, IsRouteInserted}
use Rattle.urlpattern_ffi_tables.specs.KeptRouters.{Router}
use Rattle.urlpattern_ffi_tables.proofs.adding_routes.insert.Goals as goal

pub returns-in-Err : goal.returns-in-Err
returns-in-Err c =
    let old = c.args.router.now in
    let name = c.args.name.now in
    let method = c.args.method.now in
    let pattern = c.args.pattern in
    let error = c.in-Err.error in
    let refused = named_refused old pattern name method error (not_empty name (sym c.is_empty.ensures ∙ c.if-is_empty.false)) c.in-Err.ensures.refused in
    let unchanged = subst (λ (new : Router). IsRouteInserted old name method pattern new (insert_status error)) (sym c.in-Err.ensures.unchanged) refused in
    subst (λ (status : Status). IsRouteInserted old name method pattern c.insert_named.new.self status) (sym c.insert_status.ensures) unchanged
