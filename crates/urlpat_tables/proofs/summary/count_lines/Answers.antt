use Rattle.std.proofs.Common.{string_bytes}
use Rattle.urlpat_tables.proofs.SummaryLemmas.{lines-more}
use Rattle.urlpat_tables.specs.Summaries.{count_line}
use Rattle.urlpat_tables.proofs.summary.count_lines.Goals as goal

pub loop-one-preserved : goal.loop-one-preserved
loop-one-preserved c =
    lines-more (count_line c.args.label.now c.args.bars c.first_count-most.result) c.args.all.now c.loop-one.one-index _ (string_bytes c.loop-one.text) (string_bytes c.push_count.new.text)
    c.loop-one-test.true c.loop-one.invariant c.in_ok-push_count.ensures
