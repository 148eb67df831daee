use Rattle.std.proofs.Common.{Bor, List, ℕ}
use Rattle.std.proofs.lemmas.Bool.{both_ways}
use Rattle.std.specs.Str.{chars}
use Rattle.urlpattern_matcher.specs.Matchers.{matcher_view}
use Rattle.urlpattern_meaning.specs.Matching.{IsMatched}
use Rattle.urlpattern_init.proofs.SpecialSchemeLemmas.{none_all, none_more}
use Rattle.urlpattern_init.proofs.constructor_parser.special_protocol.accepts_any.Goals as goal

pub loop-text-preserved : goal.loop-text-preserved
loop-text-preserved g c =
    none_more (λ (text : Bor (List ℕ)). IsMatched g.R.RegExp.answer (matcher_view c.args.matcher.now) (chars text.now)) c.args.texts.now c.loop-text.text-index _
    c.loop-text-test.true c.loop-text.invariant
    (λ matched. both_ways _ c.if-branch.false (c.in_ok-accepts.ensures.answer.1 matched))

pub returns-clause-answer : goal.returns-clause-answer
returns-clause-answer g c =
    none_all (λ (text : Bor (List ℕ)). IsMatched g.R.RegExp.answer (matcher_view c.args.matcher.now) (chars text.now)) c.args.texts.now c.loop-text.text-index
    c.loop-text-test.false c.loop-text.invariant
