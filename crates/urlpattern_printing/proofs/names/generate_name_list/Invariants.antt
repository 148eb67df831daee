use Rattle.std.proofs.Common.{◌≡◌, ◌≤◌, length, map, take}
use Rattle.std.specs.Prelude.{vec_capacity}
use Rattle.urlpattern_syntax.specs.Parts.{part_view}
use Rattle.urlpattern_syntax.specs.RegexpText.{group_names}
use Rattle.urlpattern_syntax.specs.Text.{text_of}
use Rattle.urlpattern_printing.proofs.names.generate_name_list.Given as goal

-- The names so far, and room for all of them.
abbrev pub invariant-loop-part : goal.invariant-loop-part
invariant-loop-part l =
    (map (λ name. text_of name) l.names.items ≡ group_names (map part_view (take l.part-index l.part_list)))
    × (length (group_names (map part_view l.part_list)) ≤ vec_capacity l.names)
