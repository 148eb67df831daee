use Rattle.std.proofs.Common.{◌≤◌, subst, sym, take_all}
use Rattle.std.proofs.lemmas.List.{length-map}
use Rattle.std.specs.List.{All}
use Rattle.urlpattern_compare.proofs.ListedLemmas.{all_more, all_now, now, now_at}
use Rattle.urlpattern_compare.specs.Comparing.{IsNotKnownToCover, DecidesCovering}
use Rattle.urlpattern_compare.proofs.first_cover.first_covering.Goals as goal

pub loop-index-preserved : goal.loop-index-preserved
loop-index-preserved c =
    let patterns = c.args.patterns.now in
    let asked = c.args.asked.now in
    let i = c.loop-index.index in
    let pattern = c.index-patterns-index.result in
    let there = now_at patterns i pattern c.loop-index-test.true c.index-patterns-index.is in
    all_more (IsNotKnownToCover asked) (all_now patterns) i pattern.now there c.loop-index.invariant
    (subst (DecidesCovering pattern.now asked) c.if-covers.false c.in_ok-covers.ensures)

pub returns-then-covers : goal.returns-then-covers
returns-then-covers c =
    let patterns = c.args.patterns.now in
    let pattern = c.index-patterns-index.result in (
      (
        pattern.now,
        now_at patterns c.loop-index.index pattern c.loop-index-test.true c.index-patterns-index.is,
        subst (DecidesCovering pattern.now c.args.asked.now) c.if-covers.true c.in_ok-covers.ensures,
      ),
      c.loop-index.invariant,
    )

pub returns : goal.returns
returns c =
    let patterns = c.args.patterns.now in
    let i = c.loop-index.index in
    let past = subst (λ count. count ≤ i) (sym (length-map patterns now)) c.loop-index-test.false in
    subst (λ list. All (IsNotKnownToCover c.args.asked.now) list) (take_all i (all_now patterns) past) c.loop-index.invariant
