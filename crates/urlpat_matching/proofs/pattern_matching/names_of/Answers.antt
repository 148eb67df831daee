use Rattle.std.proofs.Common.{ap}
use Rattle.std.specs.Map.{keys_of}
use Rattle.std.specs.Str.{chars}
use Rattle.urlpat_matching.proofs.GroupNames.{names-end, names-more}
use Rattle.urlpattern_matches.specs.BorrowedMatches.{group_text, groups_left}
use Rattle.urlpat_matching.proofs.pattern_matching.names_of.Goals as goal

pub loop-group-init : goal.loop-group-init
loop-group-init c = rw (c.into_iter-group-iterator.ensures.into_iter_gives, c.new-names.ensures.items) (ap keys_of c.groups-group-items.ensures)

pub loop-group-preserved : goal.loop-group-preserved
loop-group-preserved c =
    names-more (groups_left c.loop-group.group-iterator) (groups_left c.next.new.self) (group_text (c.in-Some.group, c.in-Some.field-0-1))
    c.in_ok-copy.copy c.loop-group.names.items c.push.new.self.items _ (rw c.in-Some.is at c.next.ensures.steps) (ap chars c.in_ok-copy.ensures.ok)
    c.in_ok-push.ensures.items c.loop-group.invariant

pub returns : goal.returns
returns c =
    let ended = rw c.in-None.is at c.next.ensures.steps in
    names-end (groups_left c.loop-group.group-iterator) c.loop-group.names.items _ ended.0 c.loop-group.invariant
