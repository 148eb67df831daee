use Rattle.std.proofs.Common.{◌≡◌, ◌∙◌, ◌<◌, ◌≤◌, ◌+◌, List, ap, arith, length, map, refl, subst, sym}
use Rattle.std.proofs.lemmas.List.{length-map}
use Rattle.std.proofs.lemmas.Option.{get_or_from_slice_get, slice_get-map, slice_get_read, slice_get_within}
use Rattle.std.specs.Prelude.{option_map}
use Rattle.urlpattern.proofs.ContentionLemmas.{AreContentionsBelow, all_asked, none_asked, pair_asked, pushed_items, row_begins, row_ends}
use Rattle.urlpattern_compare.specs.CommonTexts.{AreAutomata}
use Rattle.urlpattern.proofs.contention.contending.Goals as goal

pub loop-first-init : goal.loop-first-init
loop-first-init c =
    let all = map (λ it. it.now) c.args.patterns.now in
    subst (AreContentionsBelow c.args.limits all 0 0) (sym c.new-found.ensures.items) (none_asked c.args.limits all)

pub loop-second-init : goal.loop-second-init
loop-second-init c =
    let all = map (λ it. it.now) c.args.patterns.now in
    record { found = row_begins c.args.limits all c.loop-first.first c.loop-first.found.items c.loop-first.invariant; order = omega arith }

pub contended_by-requires-clause-first : goal.contended_by-requires-clause-first
contended_by-requires-clause-first c =
    let patterns = c.args.patterns.now in
    let all = map (λ it. it.now) patterns in
    let i = c.loop-first.first in
    let one = c.index-patterns-first.result in
    let there = slice_get-map (λ it. it.now) patterns i ∙ ap (option_map (λ it. it.now)) (slice_get_read patterns (length patterns) i one refl c.loop-first-test.true c.index-patterns-first.is) in
    subst AreAutomata (get_or_from_slice_get all i one.now one.now there) (c.requires i one.now (slice_get_within all i one.now there))

pub contended_by-requires-clause-second : goal.contended_by-requires-clause-second
contended_by-requires-clause-second c =
    let patterns = c.args.patterns.now in
    let all = map (λ it. it.now) patterns in
    let i = c.loop-second.second in
    let one = c.index-patterns-second.result in
    let there = slice_get-map (λ it. it.now) patterns i ∙ ap (option_map (λ it. it.now)) (slice_get_read patterns (length patterns) i one refl c.loop-second-test.true c.index-patterns-second.is) in
    subst AreAutomata (get_or_from_slice_get all i one.now one.now there) (c.requires i one.now (slice_get_within all i one.now there))

pub loop-second-preserved : goal.loop-second-preserved
loop-second-preserved c =
    let patterns = c.args.patterns.now in
    let all = map (λ it. it.now) patterns in
    let i = c.loop-first.first in
    let j = c.loop-second.second in
    let one = c.index-patterns-first.result in
    let other = c.index-patterns-second.result in
    let at_i = slice_get-map (λ it. it.now) patterns i ∙ ap (option_map (λ it. it.now)) (slice_get_read patterns (length patterns) i one refl c.loop-first-test.true c.index-patterns-first.is) in
    let at_j = slice_get-map (λ it. it.now) patterns j ∙ ap (option_map (λ it. it.now)) (slice_get_read patterns (length patterns) j other refl c.loop-second-test.true c.index-patterns-second.is) in
    let contended = c.in_ok-contended.contended in
    let order = c.loop-second.invariant.order in
    record {
      found = pair_asked c.args.limits all i j one.now other.now c.loop-second.found.items c.push_pair.new.found.items contended order at_i at_j c.in_ok-contended.ensures
          (pushed_items contended c.loop-second.found c.push_pair.new.found i j c.in_ok-push_pair.ensures) c.loop-second.invariant.found;
      order = omega (arith, order);
    }

pub loop-first-preserved : goal.loop-first-preserved
loop-first-preserved c =
    let patterns = c.args.patterns.now in
    let all = map (λ it. it.now) patterns in
    let whole : length all ≤ c.loop-second.second = omega (arith, length-map patterns (λ it. it.now), c.loop-second-test.false) in
    row_ends c.args.limits all c.loop-first.first c.loop-second.second c.loop-second.found.items whole c.loop-second.invariant.found

pub returns : goal.returns
returns c =
    let patterns = c.args.patterns.now in
    let all = map (λ it. it.now) patterns in
    let whole : length all ≤ c.loop-first.first = omega (arith, length-map patterns (λ it. it.now), c.loop-first-test.false) in
    all_asked c.args.limits all c.loop-first.first c.loop-first.found.items whole c.loop-first.invariant
