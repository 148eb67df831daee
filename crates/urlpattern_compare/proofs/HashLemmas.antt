-- What a hasher is fed of parts.
use Rattle.std.proofs.Common.{◌≡◌, ◌∙◌, List, [], ◌∷◌, ◌++◌, ap, refl}
use Rattle.std.specs.List.{flat_map}
use Rattle.std.specs.Prelude.{map, ℕ}
use Rattle.urlpattern_compare.specs.EqualParts.{AreEqual, AreEqualParts}
use Rattle.urlpattern_compare.specs.declared.pattern_parts.PatternParts.{PatternParts}
use Rattle.urlpattern_components.specs.declared.eight.ComponentName.{ComponentName}
use Rattle.urlpattern_components.specs.Eight.{at, components}
use Rattle.urlpattern_syntax.specs.declared.parser.Part.{Part}
use Rattle.urlpattern_syntax.specs.declared.parts.ComponentParts.{ComponentParts}
use Rattle.urlpattern_syntax.specs.Options.{OptionsView}
use Rattle.urlpattern_syntax.specs.ComponentParts.{kept_options, kept_parts}
use Rattle.urlpattern_syntax.specs.Parts.{PartView, part_view}
use Rattle.urlpattern_compare.specs.PartsHash.{component_input, part_input, parts_input}
use Rattle.std.specs.Hash as fed

-- Parts are fed by their views.
pub fed_views : (parts : List Part) → flat_map (λ part. part_input (part_view part)) parts ≡ flat_map part_input (map part_view parts)
fed_views [] = refl
fed_views (part ∷ parts) = ap (λ rest. part_input (part_view part) ++ rest) (fed_views parts)

-- Equal components are fed alike.
pub fed_equal : (component other : ComponentParts) → AreEqual component other → component_input component ≡ component_input other
fed_equal component other equal =
    ap (λ (o : OptionsView). fed.bool o.ignore_case ++ fed.slice part_input (kept_parts component)) equal.options
    ∙ ap (λ (parts : List PartView). fed.bool (kept_options other).ignore_case ++ fed.slice part_input parts) equal.parts

-- Equal parts are fed alike.
pub fed_alike : (parts others : PatternParts) → AreEqualParts parts others → parts_input parts ≡ parts_input others
fed_alike parts others equal = by components
  where
    by : (names : List ComponentName) → flat_map (λ name. component_input (at parts.components name)) names ≡ flat_map (λ name. component_input (at others.components name)) names
    by [] = refl
    by (name ∷ names) =
        ap (λ (first : List (List ℕ)). first ++ flat_map (λ name. component_input (at parts.components name)) names) (fed_equal (at parts.components name) (at others.components name) (equal name))
        ∙ ap (λ (rest : List (List ℕ)). component_input (at others.components name) ++ rest) (by names)
