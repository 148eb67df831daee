use Rattle.std.proofs.Common.{refl}
use Rattle.urlpattern_ffi.specs.Calls.{IsNoUrl}
use Rattle.urlpattern_ffi_tables.specs.KeptRouters.{boxed_router}
use Rattle.urlpattern_ffi_tables.specs.RoutedRequests.{AreTextsOfUrl}
use Rattle.urlpattern_ffi_tables.proofs.RouteLemmas.{request_of}
use Rattle.urlpattern_ffi_tables.proofs.routing.route_of_url.Goals as goal

pub returns-in-Some : goal.returns-in-Some
returns-in-Some c =
    request_of (AreTextsOfUrl c.args.url.now c.args.base.now) (IsNoUrl c.args.url.now c.args.base.now) c.in-Some.router.now (boxed_router c.args.kept.now) c.args.method.now c.args.method.now c.args.index.now c.routed_url.new.index c.args.buffer.now c.routed_url.new.buffer c.args.spans.now c.routed_url.new.spans c.routed_url.new.needed c.routed_url.result c.in-Some.ensures.some.0 refl c.routed_url.ensures

pub returns-in-None : goal.returns-in-None
returns-in-None c =
    request_of (AreTextsOfUrl c.args.url.now c.args.base.now) (IsNoUrl c.args.url.now c.args.base.now) c.router_without_routes-router.result (boxed_router c.args.kept.now) c.args.method.now c.args.method.now c.args.index.now c.routed_url-in-None.new.index c.args.buffer.now c.routed_url-in-None.new.buffer c.args.spans.now c.routed_url-in-None.new.spans c.routed_url-in-None.new.needed c.routed_url-in-None.result c.router_without_routes-router.ensures refl c.routed_url-in-None.ensures
