use Rattle.std.proofs.Common.{sym, arith}
use Rattle.regex_vm.proofs.FoundLemmas.{put_kept, put_low, put_past}
use Rattle.urlpattern_engine.proofs.bounded_search.write.Goals as goal

pub returns-then-slot-lt2 : goal.returns-then-slot-lt2
returns-then-slot-lt2 c = sym (put_low _ _ _ c.if-slot-lt2.true)

pub returns-then-index-lt-CELL_COUNT : goal.returns-then-index-lt-CELL_COUNT
returns-then-index-lt-CELL_COUNT c = sym (put_kept _ _ _ c.if-slot-lt2.false)

pub returns-else-index-lt-CELL_COUNT : goal.returns-else-index-lt-CELL_COUNT
returns-else-index-lt-CELL_COUNT c =
    sym (put_past _ _ _ c.if-slot-lt2.false (omega (arith, c.told-cells, c.if-index-lt-CELL_COUNT.false)))
