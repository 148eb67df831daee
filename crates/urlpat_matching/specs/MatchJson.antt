-- Matches as JSON, as the library writes it, one on each line.
use Rattle.std.specs.Prelude.{◌≡◌, ◌++◌, ℕ, List, codes}
use Rattle.serde_json.specs.Data.{Data}
use Rattle.serde_json.specs.Written.{compact_text}
use Rattle.urlpattern_components.specs.declared.eight.ComponentName.{ComponentName}
use Rattle.urlpattern_matches.specs.ResultJson.{IsResultTree, plain_results_view}
use Rattle.urlpattern_matches.specs.ResultViews.{IsSameResult, ResultView, result_view}
use Rattle.urlpattern_matches.specs.declared.result.UrlPatternResult.{UrlPatternResult}

-- The text of JSON, without spaces, and a line end.
abbrev pub json_line : Data → List ℕ
json_line tree = compact_text tree ++ codes "\n"

-- `tree` is the JSON of a match, whose components have the results `result`.
abbrev pub IsMatchTree : (ComponentName → ResultView) → Data → Type 0
IsMatchTree result tree =
    (copy : UrlPatternResult)
    × ((name : ComponentName) → IsSameResult (result_view copy name) (result name))
    × IsResultTree (plain_results_view copy) tree

-- `text` is the JSON of a match as a line.
abbrev pub IsMatchJson : (ComponentName → ResultView) → (text : List ℕ) → Type 0
IsMatchJson result text = (tree : Data) × IsMatchTree result tree × (text ≡ json_line tree)
