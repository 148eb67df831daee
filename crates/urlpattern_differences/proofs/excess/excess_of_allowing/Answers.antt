use Rattle.std.proofs.Common.{◌≡◌, ◌<◌, ◌+◌, Option, arith, length, rules, subst, sym}
use Rattle.urlpattern_differences.proofs.ExcessLemmas.{DoubtfulAt, LacksAt, SoFar, all_others, at_weaker, doubtful_more, lacking_more}
use Rattle.urlpattern_differences.proofs.excess.excess_of_allowing.Goals.{in-Nothing, in-Unknown}
use Rattle.urlpattern_differences.specs.Deciding.{rule_at}
use Rattle.urlpattern_differences.specs.Excess.{IsExcessOf, IsExcessWith}
use Rattle.urlpattern_differences.specs.declared.excess.PairDoubt.{PairDoubt}
use Rattle.urlpattern_differences.proofs.excess.excess_of_allowing.Goals as goal

pub loop-place-preserved : goal.loop-place-preserved
loop-place-preserved c =
    let limits = c.args.limits in
    let one = c.args.one.now in
    let other = c.args.other.now in
    let first = c.args.first in
    let count = c.len-count.result in
    let place = c.loop-place.place in
    let Lacks = LacksAt limits one other first count in
    let Doubtful = DoubtfulAt limits one other first count in
    let weaker = at_weaker limits one other first count in
    let is = subst (λ rule. IsExcessWith limits one other first rule c.in_ok-found.found) c.rule_at.ensures c.in_ok-found.ensures in
    elim c.match-found.branch [
      | in-Nothing w ↦
          subst (λ (doubt : Option PairDoubt). SoFar limits one other Lacks Doubtful (place + 1) doubt) (sym w.doubt-is)
          (lacking_more limits one other Lacks Doubtful weaker place c.loop-place.doubt c.loop-place.invariant
          (subst (IsExcessWith limits one other first (rule_at count place)) w.in-Nothing.is is))
      | in-Unknown w ↦
          let both = subst (IsExcessWith limits one other first (rule_at count place)) w.in-Unknown.is is in
          subst (λ (doubt : Option PairDoubt). SoFar limits one other Lacks Doubtful (place + 1) doubt) (sym w.doubt-is)
          (doubtful_more limits one other Lacks Doubtful weaker place c.loop-place.doubt w.in-Unknown.another c.loop-place.invariant both.0 both.1)
    ]

pub returns : goal.returns
returns c =
    let other = c.args.other.now in
    let count = c.len-count.result in
    let places = c.loop-place.place in
    let same : count ≡ length other.patterns.items = search rules in
    let all : count < places = omega (arith, c.loop-place-test.false) in
    subst (IsExcessOf c.args.limits c.args.one.now other c.args.first) (sym c.found_or_nothing.ensures)
    (all_others c.args.limits c.args.one.now other c.args.first count places c.loop-place.doubt same all c.loop-place.invariant)
