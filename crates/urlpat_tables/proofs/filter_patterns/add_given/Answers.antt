use Rattle.urlpat_tables.proofs.FilterPatternLemmas.{given-one, given-several}
use Rattle.urlpat_tables.proofs.filter_patterns.add_given.Goals as goal

pub returns-in-One : goal.returns-in-One
returns-in-One g c = λ yes.
    given-one c.args.ignore_case (g.T.Tables.Has c.args.tables.now) c.args.asked.patterns c.args.asked c.in-One.given c.args.patterns.now c.add_pattern.new.patterns c.in-One.is c.requires
    (c.add_pattern.ensures yes)

pub returns-else-not-add_words : goal.returns-else-not-add_words
returns-else-not-add_words g c = λ yes.
    given-several c.args.ignore_case (g.T.Tables.Has c.args.tables.now) c.args.asked.patterns c.args.asked c.in-Several.words c.in-Several.files c.args.patterns.now c.add_words.new.patterns
    c.add_files.new.patterns c.in-Several.is c.requires (c.add_words.ensures c.if-not-add_words.false) (c.add_files.ensures yes)
