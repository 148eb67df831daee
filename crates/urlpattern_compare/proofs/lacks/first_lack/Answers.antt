use Rattle.std.proofs.Common.{map, subst, sym}
use Rattle.std.proofs.lemmas.List.Elements.{All-contains, Contains-get_or}
use Rattle.std.specs.List.{All, Contains}
use Rattle.urlpattern_compare.proofs.AnswerLemmas.{in_none, in_some}
use Rattle.urlpattern_compare.proofs.CommonLemmas.{lack_at, slice_map}
use Rattle.urlpattern_compare.proofs.TakenLemmas.{all_map_more, contains_map, map_whole}
use Rattle.urlpattern_compare.specs.CommonTexts.{AreAutomata, IsLackOf, IsSure}
use Rattle.urlpattern_compare.proofs.lacks.first_lack.Goals as goal

pub lack_of-requires : goal.lack_of-requires
lack_of-requires c =
    let patterns = c.args.patterns.now in
    let one = c.index-patterns-index.result in
    let listed : Contains patterns one = subst (Contains patterns) (sym c.index-patterns-index.is) (Contains-get_or patterns c.loop-index.index one c.loop-index-test.true) in
    All-contains AreAutomata (map (λ it. it.now) patterns) one.now c.requires (contains_map (λ it. it.now) patterns one listed)

pub loop-index-preserved : goal.loop-index-preserved
loop-index-preserved c =
    all_map_more (IsSure (map (λ it. it.now) c.args.all_of.now)) (λ it. it.now) c.args.patterns.now c.loop-index.index c.index-patterns-index.result c.loop-index-test.true c.index-patterns-index.is
    c.loop-index.invariant (in_none (IsSure (map (λ it. it.now) c.args.all_of.now) c.index-patterns-index.result.now) c.in_ok-lack.field-0 c.in-None.is c.in_ok-lack.ensures.none)

pub returns-in-Some-clause-some : goal.returns-in-Some-clause-some
returns-in-Some-clause-some c =
    let patterns = c.args.patterns.now in
    let one = c.index-patterns-index.result in
    lack_at (map (λ it. it.now) patterns) c.loop-index.index one.now c.in-Some.lack (slice_map (λ it. it.now) patterns c.loop-index.index one c.loop-index-test.true c.index-patterns-index.is)
    (in_some (IsLackOf one.now c.loop-index.index) c.in_ok-lack.field-0 c.in-Some.lack c.in-Some.is c.in_ok-lack.ensures.some)

pub returns-clause-none : goal.returns-clause-none
returns-clause-none c =
    subst (All (IsSure (map (λ it. it.now) c.args.all_of.now))) (map_whole (λ it. it.now) c.args.patterns.now c.loop-index.index c.loop-index-test.false) c.loop-index.invariant
