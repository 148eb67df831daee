use Rattle.std.proofs.Common.{◌≡◌, ◌<◌, ◌+◌, Option, arith, length, rules, subst, sym}
use Rattle.urlpattern_differences.proofs.ExcessLemmas.{RuleDoubtful, RuleLacks, SoFar, all_ones, doubtful_more, lacking_more, rule_weaker}
use Rattle.urlpattern_differences.proofs.excess.find_excess.Goals.{in-Nothing, in-Unknown}
use Rattle.urlpattern_differences.specs.Deciding.{rule_at}
use Rattle.urlpattern_differences.specs.Excess.{IsExcess, IsExcessOf}
use Rattle.urlpattern_differences.specs.declared.excess.PairDoubt.{PairDoubt}
use Rattle.urlpattern_differences.proofs.excess.find_excess.Goals as goal

pub loop-place-preserved : goal.loop-place-preserved
loop-place-preserved c =
    let limits = c.args.limits in
    let one = c.args.one.now in
    let other = c.args.other.now in
    let count = c.len-count.result in
    let place = c.loop-place.place in
    let Lacks = RuleLacks limits one other count in
    let Doubtful = RuleDoubtful limits one other count in
    let weaker = rule_weaker limits one other count in
    let is = subst (λ rule. IsExcessOf limits one other rule c.in_ok-found.found) c.rule_at.ensures c.in_ok-found.ensures in
    elim c.match-found.branch [
      | in-Nothing w ↦
          subst (λ (doubt : Option PairDoubt). SoFar limits one other Lacks Doubtful (place + 1) doubt) (sym w.doubt-is)
          (lacking_more limits one other Lacks Doubtful weaker place c.loop-place.doubt c.loop-place.invariant
          (subst (IsExcessOf limits one other (rule_at count place)) w.in-Nothing.is is))
      | in-Unknown w ↦
          let both = subst (IsExcessOf limits one other (rule_at count place)) w.in-Unknown.is is in
          subst (λ (doubt : Option PairDoubt). SoFar limits one other Lacks Doubtful (place + 1) doubt) (sym w.doubt-is)
          (doubtful_more limits one other Lacks Doubtful weaker place c.loop-place.doubt w.in-Unknown.another c.loop-place.invariant both.0 both.1)
    ]

pub returns : goal.returns
returns c =
    let one = c.args.one.now in
    let count = c.len-count.result in
    let places = c.loop-place.place in
    let same : count ≡ length one.patterns.items = search rules in
    let all : count < places = omega (arith, c.loop-place-test.false) in
    subst (IsExcess c.args.limits one c.args.other.now) (sym c.found_or_nothing.ensures)
    (all_ones c.args.limits one c.args.other.now count places c.loop-place.doubt same all c.loop-place.invariant)
