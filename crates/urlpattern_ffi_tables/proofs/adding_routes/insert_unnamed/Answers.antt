use Rattle.std.proofs.Common.{◌∙◌, [], subst, sym}
use Rattle.urlpattern_ffi.specs.declared.status.Status.{Status}
use Rattle.urlpattern_ffi_tables.proofs.RouteLemmas.{not_empty, unnamed, unnamed_refused}
use Rattle.urlpattern_ffi_tables.specs.AddedRoutes.{insert_status, IsRouteInserted}
use Rattle.urlpattern_ffi_tables.specs.KeptRouters.{Router}
use Rattle.urlpattern_ffi_tables.proofs.adding_routes.insert_unnamed.Goals as goal

pub returns-in-Ok-insert : goal.returns-in-Ok-insert
returns-in-Ok-insert c =
    unnamed c.args.router.now c.insert.new.self c.args.pattern c.args.method.now (not_empty c.args.method.now (sym c.is_empty.ensures ∙ c.if-is_empty.false)) c.in-Ok-insert.ensures.appended c.in-Ok-insert.ensures.method

pub returns-in-Err-insert : goal.returns-in-Err-insert
returns-in-Err-insert c =
    let old = c.args.router.now in
    let method = c.args.method.now in
    let pattern = c.args.pattern in
    let error = c.in-Err-insert.error in
    let refused = unnamed_refused old pattern method error (not_empty method (sym c.is_empty.ensures ∙ c.if-is_empty.false)) c.in-Err-insert.ensures.refused in
    let unchanged = subst (λ (new : Router). IsRouteInserted old [] method pattern new (insert_status error)) (sym c.in-Err-insert.ensures.unchanged) refused in
    subst (λ (status : Status). IsRouteInserted old [] method pattern c.insert.new.self status) (sym c.insert_status.ensures) unchanged
