-- How it is printed whether a pattern covers another, as lines of text or of JSON. Texts are bytes.
use Rattle.std.specs.Prelude.{ℕ, Bool, true, false, List, [], ◌∷◌, ◌++◌, codes, Option, None, Some, String, option_map, string_bytes}
use Rattle.std.specs.List.{flat_map}
use Rattle.std.specs.declared.alloc.Global.{Global}
use Rattle.serde_json.specs.Data.{Data, boolean, string}
use Rattle.urlpat_matching.specs.MatchJson.{json_line}
use Rattle.urlpattern_compare.specs.declared.pattern_parts.Parting.{Parting}
use Rattle.urlpattern_components.specs.Eight.{at, components, name_text}
use Rattle.urlpattern_components.specs.declared.eight.ComponentName.{ComponentName}
use Rattle.urlpattern_inputs.specs.Trees.{each_member, object_of}

-- The line of a component whose text is known. Otherwise empty.
abbrev pub known_line : ComponentName → Option (String Global) → List ℕ
known_line name None = []
known_line name (Some text) = name_text name ++ codes "=" ++ string_bytes text ++ codes "\n"

-- Whether a pattern covers the asked one, as text. `parting` shows that it does not. `None`: it
-- does.
abbrev pub covering_lines : (parting : Option Parting) → List ℕ
covering_lines None = codes "covered\n"
covering_lines (Some parting) =
    codes "not covered: " ++ name_text parting.component ++ codes "\n"
    ++ flat_map (λ name. known_line name (at parting.texts name)) components

-- A known text as JSON.
abbrev pub known_tree : Option (String Global) → Option Data
known_tree known = option_map (λ text. string (string_bytes text)) known

-- Whether a pattern covers the asked one, as JSON.
abbrev pub covering_tree : (parting : Option Parting) → Data
covering_tree None = object_of ((codes "covered", Some (boolean true)) ∷ [])
covering_tree (Some parting) =
    object_of ((codes "covered", Some (boolean false))
    ∷ (codes "component", Some (string (name_text parting.component)))
    ∷ (codes "texts", Some (object_of (each_member (λ name. known_tree (at parting.texts name)))))
    ∷ [])

-- What `covers` prints.
abbrev pub covering_shown : (json : Bool) → (parting : Option Parting) → List ℕ
covering_shown true parting = json_line (covering_tree parting)
covering_shown false parting = covering_lines parting
