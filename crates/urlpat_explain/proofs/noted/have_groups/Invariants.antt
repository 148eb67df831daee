use Rattle.std.proofs.Common.{◌≡◌, drop}
use Rattle.urlpat_explain.specs.Noted.{have_groups}
use Rattle.urlpat_explain.proofs.noted.have_groups.Given as goal
use Rattle.urlpattern_syntax.specs.Parts.{parts_view}

-- The parts that are left decide.
abbrev pub invariant-loop-part : goal.invariant-loop-part
invariant-loop-part l = have_groups (parts_view l.parts) ≡ have_groups (parts_view (drop l.part-index l.parts))
