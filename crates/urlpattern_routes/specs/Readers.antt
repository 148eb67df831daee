-- What a step of reading finds.
use Rattle.std.specs.Prelude.{◌≡◌, List, ◌++◌}
use Rattle.urlpattern_routes.specs.declared.fault.RouterFault.{RouterFault}
use Rattle.urlpattern_routes.specs.declared.reading.Reader.{Reader}

-- The faults of the reader grow by these.
abbrev pub Finds : (before after : Reader) → List RouterFault → Type 0
Finds before after faults = after.faults.items ≡ before.faults.items ++ faults
