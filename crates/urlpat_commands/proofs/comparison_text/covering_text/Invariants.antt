use Rattle.std.proofs.Common.{◌≡◌, ◌++◌, codes, string_bytes, take}
use Rattle.std.specs.List.{flat_map}
use Rattle.urlpat_commands.specs.ComparisonTexts.{known_line}
use Rattle.urlpattern_components.specs.Eight.{at, name_text}
use Rattle.urlpat_commands.proofs.comparison_text.covering_text.Given as goal

abbrev pub invariant-loop-name : goal.invariant-loop-name
invariant-loop-name l =
    string_bytes l.text ≡ codes "not covered: " ++ name_text l.found.component ++ codes "\n" ++ flat_map (λ name. known_line name (at l.found.texts name)) (take l.name-index l.name-items)
