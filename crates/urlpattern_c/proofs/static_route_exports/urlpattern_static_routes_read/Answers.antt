use Rattle.std.proofs.Common.{subst, sym}
use Rattle.urlpattern_ffi_routes.specs.KeptRoutes.{Routes}
use Rattle.urlpattern_ffi_routes.specs.ReadRoutes.{AreRead}
use Rattle.urlpattern_c.proofs.static_route_exports.urlpattern_static_routes_read.Goals as goal

pub returns : goal.returns
returns c =
    let Read = λ (new : Routes). AreRead c.args.script.now c.args.json.now c.args.has_handler new c.read_routes-status.result in
    (c.read_routes-status.result, c.number.ensures, subst Read (sym c.put.ensures) c.read_routes-status.ensures)
