use Rattle.std.proofs.Common.{take}
use Rattle.std.specs.List.{AllZip}
use Rattle.example.specs.Server.{IsRouteOf}
use Rattle.example.proofs.server.pages.Given as goal

-- The routes of the rows before the index.
abbrev pub invariant-loop-row : goal.invariant-loop-row
invariant-loop-row l = AllZip IsRouteOf (take l.row-index l.rows) l.pages.routes
