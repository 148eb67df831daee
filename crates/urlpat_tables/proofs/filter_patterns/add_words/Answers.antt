use Rattle.urlpat_tables.proofs.FilterPatternLemmas.{texts-none, words-more}
use Rattle.urlpat_tables.proofs.filter_patterns.add_words.Goals as goal

pub loop-word-init : goal.loop-word-init
loop-word-init g c = texts-none c.args.ignore_case c.args.asked c.args.patterns.now

pub loop-word-preserved : goal.loop-word-preserved
loop-word-preserved g c =
    words-more c.args.ignore_case c.args.asked c.args.words.now c.loop-word.word-index _ c.args.patterns.now c.loop-word.patterns c.add_pattern.new.patterns c.loop-word-test.true
    c.loop-word.invariant (c.add_pattern.ensures c.if-not-add_pattern.false)
