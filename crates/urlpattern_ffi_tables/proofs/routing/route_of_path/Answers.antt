use Rattle.std.proofs.Common.{refl}
use Rattle.urlpattern_ffi.specs.PassedTexts.{AreTextsOfPath, IsNoPath}
use Rattle.urlpattern_ffi_tables.specs.KeptRouters.{boxed_router}
use Rattle.urlpattern_ffi_tables.proofs.RouteLemmas.{request_of}
use Rattle.urlpattern_ffi_tables.proofs.routing.route_of_path.Goals as goal

pub returns-in-Some : goal.returns-in-Some
returns-in-Some c =
    request_of (AreTextsOfPath c.args.path.now) (IsNoPath c.args.path.now) c.in-Some.router.now (boxed_router c.args.kept.now) c.args.method.now c.args.method.now c.args.index.now c.routed_path.new.index c.args.buffer.now c.routed_path.new.buffer c.args.spans.now c.routed_path.new.spans c.routed_path.new.needed c.routed_path.result c.in-Some.ensures.some.0 refl c.routed_path.ensures

pub returns-in-None : goal.returns-in-None
returns-in-None c =
    request_of (AreTextsOfPath c.args.path.now) (IsNoPath c.args.path.now) c.router_without_routes-router.result (boxed_router c.args.kept.now) c.args.method.now c.args.method.now c.args.index.now c.routed_path-in-None.new.index c.args.buffer.now c.routed_path-in-None.new.buffer c.args.spans.now c.routed_path-in-None.new.spans c.routed_path-in-None.new.needed c.routed_path-in-None.result c.router_without_routes-router.ensures refl c.routed_path-in-None.ensures
