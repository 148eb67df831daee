use Rattle.std.proofs.Common.{arith, rules}
use Rattle.urlpat_explain.proofs.GivenWordLemmas.{given_all, given_more, nothing_given}
use Rattle.urlpattern_pattern.specs.Patterns.{pattern_view}
use Rattle.urlpat_explain.proofs.given_words.given_by.Goals as goal

pub returns-in-None-clause-refused : goal.returns-in-None-clause-refused
returns-in-None-clause-refused c =
    nothing_given (pattern_view c.args.pattern.now) c.args.words.now c.loop-word.word-index _ c.loop-word.groups.items (omega arith) c.in-None.ensures.nothing c.loop-word.invariant

pub loop-word-preserved : goal.loop-word-preserved
loop-word-preserved c =
    given_more (pattern_view c.args.pattern.now) c.args.words.now c.loop-word.word-index _ c.loop-word.groups.items _ c.in-Some.group (omega arith)
    (search rules) c.in-Some.ensures.given c.loop-word.invariant

pub returns-clause-given : goal.returns-clause-given
returns-clause-given c = given_all (pattern_view c.args.pattern.now) c.args.words.now c.loop-word.word-index c.loop-word.groups.items (omega arith) c.loop-word.invariant
