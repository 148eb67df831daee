use Rattle.std.proofs.Common.{◌∙◌, ap}
use Rattle.std.specs.Map.{keys_of}
use Rattle.std.specs.Prelude.{encode_utf8_all, option_map, Some}
use Rattle.urlpattern_ffi.proofs.CallLemmas.{group_named}
use Rattle.urlpattern_ffi_tables.specs.KeptRouters.{boxed_router}
use Rattle.urlpattern_ffi_tables.proofs.group_names.write_route_group_name.Goals as goal

pub returns-in-Some : goal.returns-in-Some
returns-in-Some c =
    group_named (keys_of (boxed_router c.args.kept.now).routes) c.args.index c.args.component c.args.group c.in_utf8.result.now c.args.buffer.now c.write.new.buffer c.write.new.needed c.write.result
    (ap Some c.in_utf8.ensures ∙ ap (option_map encode_utf8_all) c.in-Some.ensures) c.write.ensures.needed c.write.ensures.written
