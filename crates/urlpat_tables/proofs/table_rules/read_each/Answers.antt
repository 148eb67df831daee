use Rattle.urlpat_tables.proofs.TableRuleLemmas.{is-reading, read-more, read-none}
use Rattle.urlpat_tables.proofs.table_rules.read_each.Goals as goal

pub loop-entry-init : goal.loop-entry-init
loop-entry-init g c = read-none (g.M.EntryReader.Reads c.args.reader.now) (g.M.EntryReader.Faults c.args.reader.now) c.args.rules.now _ c.requires c.new-faults.ensures.items

pub loop-entry-preserved : goal.loop-entry-preserved
loop-entry-preserved g c =
    read-more (g.M.EntryReader.Reads c.args.reader.now) (g.M.EntryReader.Faults c.args.reader.now) c.args.entries.now c.loop-entry.entry-index _ c.in_ok-reading.reading
    c.loop-entry.rules c.add_reading.new.rules c.loop-entry.faults.items c.add_reading.new.faults.items c.loop-entry-test.true c.in_ok-add_reading.ensures
    (is-reading (g.M.EntryReader.Reads c.args.reader.now) (g.M.EntryReader.Faults c.args.reader.now) _ c.in_ok-reading.reading c.in_ok-reading.ensures.read c.in_ok-reading.ensures.fault)
    c.loop-entry.invariant
