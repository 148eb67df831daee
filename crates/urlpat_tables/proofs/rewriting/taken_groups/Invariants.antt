-- The texts that the groups of the components so far take are given.
use Rattle.std.proofs.Common.{◌≡◌, take}
use Rattle.std.specs.List.{flat_map}
use Rattle.urlpat_tables.specs.RewriteRules.{component_taken}
use Rattle.urlpattern.specs.BorrowedMatches.{pattern_captures_view}
use Rattle.urlpattern.specs.Patterns.{pattern_view}
use Rattle.urlpattern.specs.WriteSettings.{given_groups}
use Rattle.urlpat_tables.proofs.rewriting.taken_groups.Given as goal

abbrev pub invariant-loop-component : goal.invariant-loop-component
invariant-loop-component l =
    given_groups l.groups.items ≡ flat_map (component_taken (pattern_view l.from) (pattern_view l.to) (pattern_captures_view l.found)) (take l.component-index l.component-items)
