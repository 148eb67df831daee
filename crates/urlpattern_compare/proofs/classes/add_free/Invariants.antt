use Rattle.std.proofs.Common.{ℕ, All, take}
use Rattle.std.specs.List.{Contains}
use Rattle.urlpattern_compare.specs.Exits.{HasFree}
use Rattle.urlpattern_compare.proofs.classes.add_free.Given as goal

abbrev pub invariant-loop-code : goal.invariant-loop-code
invariant-loop-code l =
    ((c : ℕ) → Contains l.fn.classes.items c → Contains l.classes.items c)
    × All (HasFree l.named l.classes.items) (take l.code-index l.breaks)
