use Rattle.std.proofs.Common.{take}
use Rattle.urlpattern_compare.specs.TextSearch.{IsPlaceSeen}
use Rattle.urlpattern_compare.proofs.text_search.is_seen.Given as goal

abbrev pub invariant-loop-place : goal.invariant-loop-place
invariant-loop-place l = ¬ IsPlaceSeen (take l.place-index l.places) l.flags
