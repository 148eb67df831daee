use Rattle.std.proofs.Common.{refl}
use Rattle.urlpattern_ffi.specs.PassedTexts.{AreTextsOfPath, IsNoPath}
use Rattle.urlpattern_ffi_tables.specs.KeptRouters.{boxed_router}
use Rattle.urlpattern_ffi_tables.proofs.AllowedLemmas.{allowed_of}
use Rattle.urlpattern_ffi_tables.proofs.allowed_methods.allowed_methods_of_path.Goals as goal

pub returns-in-Some : goal.returns-in-Some
returns-in-Some c =
    allowed_of (AreTextsOfPath c.args.path.now) (IsNoPath c.args.path.now) c.in-Some.router.now (boxed_router c.args.kept.now) c.args.method.now c.args.method.now c.args.buffer.now c.allowed_at_path.new.buffer c.allowed_at_path.new.needed c.allowed_at_path.result c.in-Some.ensures.some.0 refl c.allowed_at_path.ensures

pub returns-in-None : goal.returns-in-None
returns-in-None c =
    allowed_of (AreTextsOfPath c.args.path.now) (IsNoPath c.args.path.now) c.router_without_routes-router.result (boxed_router c.args.kept.now) c.args.method.now c.args.method.now c.args.buffer.now c.allowed_at_path-in-None.new.buffer c.allowed_at_path-in-None.new.needed c.allowed_at_path-in-None.result c.router_without_routes-router.ensures refl c.allowed_at_path-in-None.ensures
