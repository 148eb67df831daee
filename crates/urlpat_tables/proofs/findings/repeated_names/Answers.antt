use Rattle.urlpat_tables.proofs.CheckLemmas.{repeated-taken}
use Rattle.urlpat_tables.proofs.findings.repeated_names.Goals as goal

pub loop-index-preserved : goal.loop-index-preserved
loop-index-preserved c =
    repeated-taken c.args.entries.now c.loop-index.index _ c.loop-index.faults.items c.push_repeated.new.faults.items c.loop-index-test.true c.loop-index.invariant
    c.in_ok-push_repeated.ensures
