-- The texts that the groups with the names so far take are appended.
use Rattle.std.proofs.Common.{◌≡◌, ◌++◌, map, take}
use Rattle.std.specs.List.{flat_map}
use Rattle.urlpat_tables.specs.RewriteRules.{given_taken}
use Rattle.urlpattern.specs.BorrowedMatches.{pattern_captures_view}
use Rattle.urlpattern.specs.Patterns.{pattern_view}
use Rattle.urlpattern.specs.WriteSettings.{given_groups}
use Rattle.urlpattern_syntax.specs.Text.{text_of}
use Rattle.urlpat_tables.proofs.rewriting.push_component.Given as goal

abbrev pub invariant-loop-name : goal.invariant-loop-name
invariant-loop-name l =
    given_groups l.groups.items
    ≡ given_groups l.initial.groups.items ++ flat_map (given_taken (pattern_view l.from) (pattern_captures_view l.found) l.component) (map (λ name. text_of name) (take l.name-index l.names))
