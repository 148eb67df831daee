use Rattle.std.proofs.Common.{◌≡◌, map, option_map}
use Rattle.std.specs.Iterator.Adapters.{zip_first, zip_second}
use Rattle.std.specs.Option.{option_or}
use Rattle.std.specs.Slice.Iter.{iter_rest}
use Rattle.std.specs.Str.{chars}
use Rattle.urlpattern_matches.specs.ResultViews.{group_of}
use Rattle.urlpattern_syntax.specs.Text.{option_text, text_of}
use Rattle.urlpattern_matches.proofs.captures.group_named.Given as goal

-- Captures that are still to come count before the one that was found.
abbrev pub invariant-loop-name : goal.invariant-loop-name
invariant-loop-name l =
    option_or (group_of (map (λ name. text_of name) (iter_rest (zip_first l.name-iterator))) (map option_text (iter_rest (zip_second l.name-iterator))) (chars l.group)) (option_map option_text l.found)
    ≡ group_of (map (λ name. text_of name) l.names) (map option_text l.captures) (chars l.group)
