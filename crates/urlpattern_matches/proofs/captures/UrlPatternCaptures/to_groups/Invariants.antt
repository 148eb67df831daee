use Rattle.std.proofs.Common.{◌≡◌, ◌++◌, map}
use Rattle.urlpattern_components.specs.Eight.{components}
use Rattle.urlpattern_matches.specs.BorrowedMatches.{all_groups_left, all_groups_view, borrowed_group, texts_captured}
use Rattle.urlpattern_matches.proofs.captures.UrlPatternCaptures.to_groups.Given as goal

-- The groups so far, and those that are still to come.
abbrev pub invariant-loop-component : goal.invariant-loop-component
invariant-loop-component l =
    map borrowed_group l.groups.items ++ texts_captured (all_groups_left l.component-iterator) ≡ texts_captured (all_groups_view l.self components)
