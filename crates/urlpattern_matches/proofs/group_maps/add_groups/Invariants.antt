use Rattle.std.proofs.Common.{◌≡◌, ℕ, List, map}
use Rattle.std.specs.Iterator.Adapters.{zip_first, zip_second}
use Rattle.std.specs.Option.{option_or}
use Rattle.std.specs.Slice.Iter.{iter_rest}
use Rattle.urlpattern_matches.specs.ResultViews.{group_in, group_of}
use Rattle.urlpattern_syntax.specs.Text.{option_text, text_of}
use Rattle.urlpattern_matches.proofs.group_maps.add_groups.Given as goal

-- Groups that are still to come count before those in the map.
abbrev pub invariant-loop-name : goal.invariant-loop-name
invariant-loop-name l = (group : List ℕ) →
    option_or (group_of (map (λ name. text_of name) (iter_rest (zip_first l.name-iterator))) (map option_text (iter_rest (zip_second l.name-iterator))) group) (group_in l.groups group)
    ≡ group_of (map (λ name. text_of name) l.names) (map option_text l.captures) group
