use Rattle.std.proofs.Common.{◌≡◌, ◌++◌, map, string_bytes}
use Rattle.std.specs.HashMap.{keys}
use Rattle.urlpattern_matches.specs.GroupTexts.{borrowed_bytes}
use Rattle.urlpattern_matches.proofs.result.names_of.Given as goal

-- The names so far, and those that are still to come.
abbrev pub invariant-loop-name : goal.invariant-loop-name
invariant-loop-name l = borrowed_bytes l.names.items ++ map (λ name. string_bytes name) l.name-iterator ≡ map (λ name. string_bytes name) (keys l.groups)
