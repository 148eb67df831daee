use Rattle.urlpat_tables.proofs.SummaryLemmas.{counted-more}
use Rattle.urlpat_tables.proofs.counting.counts_of.Goals as goal

pub loop-entry-preserved : goal.loop-entry-preserved
loop-entry-preserved c =
    counted-more c.args.numbers.now c.args.entries.now c.loop-entry.entry-index _ c.loop-entry.all.items c.push.new.self.items _ c.loop-entry-test.true c.loop-entry.invariant
    c.in_ok-count_in.ensures c.in_ok-push.ensures.items
