use Rattle.std.proofs.Common.{◌≡◌, map, take}
use Rattle.urlpattern_compare.proofs.moves.characters_of.Given as goal

abbrev pub invariant-loop-one : goal.invariant-loop-one
invariant-loop-one l = l.found.items ≡ map (λ it. it.c) (take l.one-index l.moves)
