use Rattle.std.proofs.Common.{subst, sym}
use Rattle.urlpattern_c.specs.Handles.{router_in}
use Rattle.urlpattern_ffi_tables.specs.Compilations.{IsPatternOfBytes, RejectsBytes}
use Rattle.urlpattern_ffi_tables.specs.AddedRoutes.{IsRouteAdded}
use Rattle.urlpattern_ffi_tables.specs.KeptRouters.{Router, boxed_router}
use Rattle.urlpattern_c.proofs.router_exports.urlpattern_router_insert.Goals as goal

pub returns : goal.returns
returns c =
    let Adds = λ (old new : Router). IsRouteAdded (IsPatternOfBytes c.args.text.now c.args.base.now c.args.ignore_case) (RejectsBytes c.args.text.now c.args.base.now c.args.ignore_case) old c.args.name.now c.args.method.now new c.add_route-status.result in
    let kept = boxed_router c.add_route-status.new.kept in
    let added = subst (λ old. Adds old kept) c.take-kept.ensures.taken c.add_route-status.ensures in
    (c.add_route-status.result, c.number.ensures, subst (Adds (router_in c.args.router.now)) (sym c.put.ensures) added)
