use Rattle.urlpat_tables.proofs.ListLemmas.{flat-more}
use Rattle.urlpat_tables.specs.Labels.{doubled}
use Rattle.urlpat_tables.proofs.labels.push_cell.Goals as goal

pub loop-byte-preserved : goal.loop-byte-preserved
loop-byte-preserved c =
    flat-more doubled _ c.loop-byte.byte-index _ _ c.loop-byte.written.items c.push_doubled.new.written.items c.loop-byte-test.true c.loop-byte.invariant c.in_ok-push_doubled.ensures
