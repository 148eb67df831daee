use Rattle.std.proofs.Common.{subst}
use Rattle.std.specs.Map.{keys_of}
use Rattle.urlpattern_ffi.specs.TextBuffers.{IsGroupNameWritten}
use Rattle.urlpattern_c.proofs.router_exports.urlpattern_router_group_name.Goals as goal

pub returns-clause-answer : goal.returns-clause-answer
returns-clause-answer c =
    let reported = subst (λ router. IsGroupNameWritten (keys_of router.routes) c.args.index c.args.component c.args.group c.args.buffer.now c.write_route_group_name-status.new.buffer c.write_route_group_name-status.new.needed c.write_route_group_name-status.result)
    c.take-kept.ensures.taken c.write_route_group_name-status.ensures in
    (c.write_route_group_name-status.result, c.number.ensures, reported)
