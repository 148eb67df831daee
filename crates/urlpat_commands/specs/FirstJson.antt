-- The first match as JSON.
use Rattle.std.specs.Prelude.{◌≡◌, ℕ, List, [], ◌∷◌, codes, Some}
use Rattle.serde_json.specs.Data.{Data, number, unsigned}
use Rattle.urlpat_matching.specs.MatchJson.{IsMatchTree, json_line}
use Rattle.urlpattern_components.specs.declared.eight.ComponentName.{ComponentName}
use Rattle.urlpattern_inputs.specs.Trees.{object_of}
use Rattle.urlpattern_matches.specs.ResultViews.{ResultView}

-- The JSON of the first match: the index of its pattern, and `found`, the JSON of the match.
abbrev pub first_tree : (index : ℕ) → (found : Data) → Data
first_tree index found =
    object_of ((codes "index", Some (number (unsigned index))) ∷ (codes "match", Some found) ∷ [])

-- `text` is the JSON of the first match as a line. `result` has the results of its components.
abbrev pub IsFirstJson : (index : ℕ) → (ComponentName → ResultView) → (text : List ℕ) → Type 0
IsFirstJson index result text =
    (tree : Data) × IsMatchTree result tree × (text ≡ json_line (first_tree index tree))
