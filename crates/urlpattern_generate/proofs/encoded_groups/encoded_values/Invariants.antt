use Rattle.std.proofs.Common.{◌≡◌, All, map, take}
use Rattle.urlpattern_generate.proofs.EncodedLemmas.{IsGivenBack, encoded_of}
use Rattle.urlpattern_generate.specs.EncodedGroups.{cow_group}
use Rattle.urlpattern_generate.proofs.encoded_groups.encoded_values.Given as goal

-- The values so far.
abbrev pub invariant-loop-component : goal.invariant-loop-component
invariant-loop-component l =
    (map cow_group l.values.items ≡ map encoded_of (take l.component-index l.groups)) × All IsGivenBack (take l.component-index l.groups)
