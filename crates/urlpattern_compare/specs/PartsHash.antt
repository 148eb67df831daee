-- What a hasher is fed of the parts of a pattern.
use Rattle.std.specs.Prelude.{ℕ, List, ◌++◌, encode_utf8_all}
use Rattle.std.specs.Hash as fed
use Rattle.std.specs.List.{flat_map}
use Rattle.urlpattern_compare.specs.Order.{kind_rank, modifier_rank}
use Rattle.urlpattern_compare.specs.declared.pattern_parts.PatternParts.{PatternParts}
use Rattle.urlpattern_components.specs.Eight.{at, components}
use Rattle.urlpattern_syntax.specs.ComponentParts.{kept_options, kept_parts}
use Rattle.urlpattern_syntax.specs.declared.parts.ComponentParts.{ComponentParts}
use Rattle.urlpattern_syntax.specs.Parts.{PartView}

-- The writes for a text.
abbrev pub text_input : List ℕ → List (List ℕ)
text_input text = fed.str (encode_utf8_all text)

-- The writes for a part: kind and modifier by their ranks, then the texts.
abbrev pub part_input : PartView → List (List ℕ)
part_input part =
    fed.u8 (kind_rank part.kind)
    ++ (fed.u8 (modifier_rank part.modifier)
    ++ (text_input part.value
    ++ (text_input part.name ++ (text_input part.prefix ++ text_input part.suffix))))

-- The writes for a component: whether case is ignored, and the parts.
abbrev pub component_input : ComponentParts → List (List ℕ)
component_input component =
    fed.bool (kept_options component).ignore_case ++ fed.slice part_input (kept_parts component)

-- The writes for the parts of a pattern, component by component.
abbrev pub parts_input : PatternParts → List (List ℕ)
parts_input parts = flat_map (λ name. component_input (at parts.components name)) components
