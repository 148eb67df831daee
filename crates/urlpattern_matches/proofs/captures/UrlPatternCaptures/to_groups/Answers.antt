use Rattle.std.proofs.Common.{ap}
use Rattle.urlpattern_matches.proofs.TakenLemmas.{taken-end}
use Rattle.urlpattern_matches.specs.BorrowedMatches.{all_groups_left, texts_captured}
use Rattle.urlpattern_matches.proofs.captures.UrlPatternCaptures.to_groups.Goals as goal

pub loop-component-init : goal.loop-component-init
loop-component-init c = rw (c.into_iter-component-iterator.ensures.into_iter_gives, c.new-groups.ensures.items) (ap texts_captured c.iter-component-items.ensures)

pub returns-clause-all : goal.returns-clause-all
returns-clause-all c =
    let ended = rw c.in-None.is at c.next.ensures.steps in
    taken-end (all_groups_left c.loop-component.component-iterator) c.loop-component.groups.items _ ended.0 c.loop-component.invariant
