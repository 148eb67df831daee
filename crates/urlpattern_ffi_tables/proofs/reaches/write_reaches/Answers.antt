use Rattle.std.proofs.Common.{subst}
use Rattle.urlpattern_ffi.specs.KeptPatterns.{PatternList}
use Rattle.urlpattern_ffi_tables.proofs.ReachLemmas.{reaches_reported}
use Rattle.urlpattern_ffi_tables.specs.WrittenReaches.{AreReachesReported}
use Rattle.urlpattern_ffi_tables.proofs.reaches.write_reaches.Goals as goal

pub returns-in-Ok : goal.returns-in-Ok
returns-in-Ok c =
    let (same, some) = c.in-Some.ensures.some in
    let old = c.args.buffer.now in
    let new = c.write_each.new.buffer in
    let needed = c.write_each.new.needed in
    let status = c.write_each.result in
    subst (λ (patterns : PatternList). AreReachesReported patterns old new needed status) same
    (reaches_reported c.in-Some.list.now c.in-Ok.found.items old new needed status some c.in-Ok.ensures.found c.write_each.ensures)
