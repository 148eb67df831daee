-- The JSON that is printed has no floats. Its text is therefore known.
use Rattle.std.proofs.Common.{◌≡◌, ℕ, false, List, sym, subst}
use Rattle.std.specs.Prelude.{IfOk, Result, Ok, Err, String, string_bytes}
use Rattle.std.specs.declared.alloc.AllocError.{AllocError}
use Rattle.std.specs.declared.alloc.Global.{Global}
use Rattle.serde_json.specs.Data.{Data}
use Rattle.serde_json.specs.Written.{has_float}
use Rattle.urlpat_matching.specs.MatchJson.{IsMatchTree, json_line}
use Rattle.urlpattern_components.specs.declared.eight.ComponentName.{ComponentName}
use Rattle.urlpattern_matches.proofs.ResultFloats.{result-none}
use Rattle.urlpattern_matches.specs.ResultJson.{plain_results_view}
use Rattle.urlpattern_matches.specs.ResultViews.{ResultView}
pub use Rattle.urlpattern_matches.proofs.ResultFloats.{each-none, put-none}

-- The JSON of a match has no float.
pub match-none : (result : ComponentName → ResultView) (tree : Data) → IsMatchTree result tree → has_float tree ≡ false
match-none result tree (copy, same, is) = result-none (plain_results_view copy) tree is

-- ---- lines

-- A property of the line of JSON without floats is one of the text that is written.
pub line_is : (tree : Data) (line : Result (String Global) AllocError) (Holds : List ℕ → Type 0) → has_float tree ≡ false → Holds (json_line tree)
    → IfOk line (λ text. has_float tree ≡ false → string_bytes text ≡ json_line tree) → IfOk line (λ text. Holds (string_bytes text))
line_is tree (Err error) Holds none is same = tt
line_is tree (Ok text) Holds none is same = subst Holds (sym (same none)) is
