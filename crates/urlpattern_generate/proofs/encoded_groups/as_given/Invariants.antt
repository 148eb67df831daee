use Rattle.std.proofs.Common.{◌≡◌, map, take}
use Rattle.urlpattern_generate.specs.EncodedGroups.{cow_group}
use Rattle.urlpattern_generate.specs.WriteSettings.{given_groups}
use Rattle.urlpattern_generate.proofs.encoded_groups.as_given.Given as goal

-- The values so far.
abbrev pub invariant-loop-component : goal.invariant-loop-component
invariant-loop-component l = given_groups l.groups.items ≡ map cow_group (take l.component-index l.values)
