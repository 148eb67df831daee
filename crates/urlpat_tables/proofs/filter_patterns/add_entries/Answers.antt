use Rattle.urlpat_tables.proofs.FilterPatternLemmas.{entries-more, texts-none}
use Rattle.urlpat_tables.proofs.filter_patterns.add_entries.Goals as goal

pub loop-entry-init : goal.loop-entry-init
loop-entry-init g c = texts-none c.args.ignore_case c.args.asked c.args.patterns.now

pub loop-entry-preserved : goal.loop-entry-preserved
loop-entry-preserved g c =
    entries-more c.args.ignore_case c.args.asked c.args.entries.now c.loop-entry.entry-index _ c.args.patterns.now c.loop-entry.patterns c.add_pattern.new.patterns c.loop-entry-test.true
    c.loop-entry.invariant (c.add_pattern.ensures c.if-not-add_pattern.false)
