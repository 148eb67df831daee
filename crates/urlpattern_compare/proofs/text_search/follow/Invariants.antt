use Rattle.std.proofs.Common.{take}
use Rattle.urlpattern_compare.specs.TextSearch.{ArePlaces, IsExtendedBy, IsFollowedIn}
use Rattle.urlpattern_compare.proofs.text_search.follow.Given as goal

abbrev pub invariant-loop-c : goal.invariant-loop-c
invariant-loop-c l = record {
  places : ArePlaces l.conditions l.places.items;
  kept : IsExtendedBy l.fn.places.items l.places.items;
  followed : IsFollowedIn l.conditions (take l.c-index l.classes) l.places.items l.place;
}
