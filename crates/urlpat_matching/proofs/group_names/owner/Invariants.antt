use Rattle.std.proofs.Common.{◌≡◌, take}
use Rattle.std.specs.List.{filter}
use Rattle.std.specs.Option.{option_to_list}
use Rattle.std.specs.Str.{chars}
use Rattle.urlpat_matching.specs.Groups.{has_group}
use Rattle.urlpattern_pattern.specs.Patterns.{pattern_view}
use Rattle.urlpat_matching.proofs.group_names.owner.Given as goal

-- The component that was found is the one that has the group, among the components so far.
abbrev pub invariant-loop-component : goal.invariant-loop-component
invariant-loop-component l = filter (has_group (pattern_view l.pattern) (chars l.name)) (take l.component-index l.component-items) ≡ option_to_list l.found
