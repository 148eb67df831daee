use Rattle.std.proofs.Common.{◌≡◌, take}
use Rattle.urlpattern_syntax.specs.Parts.{parts_view}
use Rattle.urlpattern_compare.proofs.copies.copied_component.Given as goal

abbrev pub invariant-loop-part : goal.invariant-loop-part
invariant-loop-part l = parts_view (take l.part-index l.component.parts.items) ≡ parts_view l.parts.items
