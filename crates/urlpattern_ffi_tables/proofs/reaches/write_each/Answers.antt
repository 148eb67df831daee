use Rattle.std.proofs.Common.{List, subst, sym, ℕ}
use Rattle.urlpattern_ffi_tables.proofs.ReachLemmas.{each_written}
use Rattle.urlpattern_ffi_tables.specs.WrittenReaches.{IsTextOfEach}
use Rattle.urlpattern_ffi_tables.proofs.reaches.write_each.Goals as goal

pub returns-in-Ok : goal.returns-in-Ok
returns-in-Ok c =
    let found = c.args.found.items in
    let is = subst (λ (bytes : List ℕ). IsTextOfEach found bytes) (sym c.deref.ensures) c.in-Ok.ensures in
    each_written found c.deref.result.now c.args.buffer.now c.write.new.buffer c.write.new.needed c.write.result is c.write.ensures.needed c.write.ensures.written
