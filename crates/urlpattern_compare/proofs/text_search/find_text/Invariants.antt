use Rattle.std.proofs.Common.{◌-◌, ◌≤◌}
use Rattle.std.specs.List.{All}
use Rattle.std.specs.Prelude.{IsTrue, length, take}
use Rattle.urlpattern_compare.specs.Conditions.{are_open, joint_starts}
use Rattle.urlpattern_compare.specs.TextSearch.{ArePlaces, IsPlaceSeen}
use Rattle.urlpattern_compare.proofs.PlaceLemmas.{IsDoneIn}
use Rattle.urlpattern_compare.proofs.text_search.find_text.Given as goal

abbrev pub invariant-loop-next : goal.invariant-loop-next
invariant-loop-next l = record {
  places : ArePlaces l.conditions l.places.items;
  starts : IsTrue (are_open l.conditions (joint_starts l.conditions)) → IsPlaceSeen l.places.items (joint_starts l.conditions);
  done : All (IsDoneIn l.conditions l.places.items) (take l.next l.places.items);
  within : l.next ≤ length l.places.items;
}

abbrev pub decreases-loop-next : goal.decreases-loop-next
decreases-loop-next l = l.most - l.next
