use Rattle.std.proofs.Common.{◌≡◌, ◌++◌, codes, map, string_bytes, take}
use Rattle.std.specs.List.{flat_map}
use Rattle.urlpat_commands.proofs.component.component_report.Given as goal

abbrev pub invariant-loop-name : goal.invariant-loop-name
invariant-loop-name l =
    string_bytes l.text ≡ codes "names:" ++ flat_map (λ name. codes " " ++ name) (map (λ name. string_bytes name) (take l.name-index l.names))
