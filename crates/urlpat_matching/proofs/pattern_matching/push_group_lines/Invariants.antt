use Rattle.std.proofs.Common.{◌≡◌, ◌++◌, map, string_bytes, take}
use Rattle.std.specs.List.{flat_map}
use Rattle.std.specs.Str.{chars}
use Rattle.urlpat_matching.specs.GroupLines.{group_bytes, group_line}
use Rattle.urlpattern_matches.specs.BorrowedMatches.{pattern_captures_view}
use Rattle.urlpattern_components.specs.Eight.{name_text}
use Rattle.urlpat_matching.proofs.pattern_matching.push_group_lines.Given as goal

abbrev pub invariant-loop-group : goal.invariant-loop-group
invariant-loop-group l =
    string_bytes l.text ≡ string_bytes l.initial.text
    ++ flat_map (λ name. group_line (name_text l.fn.name) name (group_bytes ((pattern_captures_view l.found l.fn.name).group (chars name)))) (map (λ name. string_bytes name) (take l.group-index l.group-items))
