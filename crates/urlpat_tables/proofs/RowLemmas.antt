-- Lemmas on the rows of `route`.
use Rattle.std.proofs.Common.{◌≡◌, ◌∙◌, ℕ, false, List, [], ◌∷◌, ◌++◌, ap, append_assoc, codes, decimal, refl}
use Rattle.std.proofs.lemmas.List.{flat_map_more}
use Rattle.std.specs.List.{flat_map}
use Rattle.serde_json.specs.Data.{Data, no_members, number, put, string, unsigned}
use Rattle.serde_json.specs.Written.{has_float}
use Rattle.urlpat_matching.proofs.MatchJsonLemmas.{put-none}
use Rattle.urlpat_matching.specs.Tables.{EntryView}
use Rattle.urlpat_tables.specs.TableRoutes.{bare_lines, cell_text, route_tree, row_text}

-- A line is appended after a tab.
pub cells-more : (old row tabbed next : List ℕ) (before : List (List ℕ)) (line : List ℕ)
    → row ≡ old ++ flat_map cell_text before → tabbed ≡ row ++ codes "\t" → next ≡ tabbed ++ line
    → next ≡ old ++ flat_map cell_text (before ++ line ∷ [])
cells-more old row tabbed next before line was tab goes =
    goes
    ∙ ap (λ (text : List ℕ). text ++ line) (tab ∙ ap (λ (text : List ℕ). text ++ codes "\t") was)
    ∙ append_assoc (old ++ flat_map cell_text before) (codes "\t") line
    ∙ flat_map_more cell_text old before line

-- A row is the concatenation of its pieces.
pub row-of : (entry : EntryView) (text old headed new : List ℕ)
    → headed ≡ old ++ (decimal entry.number ++ codes "\t" ++ entry.name) → new ≡ headed ++ flat_map cell_text (bare_lines text)
    → new ≡ old ++ row_text entry text
row-of entry text old headed new head cells =
    let front = decimal entry.number ++ codes "\t" ++ entry.name in
    let middle = flat_map cell_text (bare_lines text) in
    cells ∙ ap (λ (row : List ℕ). row ++ middle) head ∙ append_assoc old front middle

-- The JSON of a route has no float.
pub route-none : (entry : EntryView) (found : Data) → has_float found ≡ false → has_float (route_tree entry found) ≡ false
route-none entry found none =
    let numbered = put (codes "number") (number (unsigned entry.number)) no_members in
    let named = put (codes "name") (string entry.name) numbered in
    put-none (codes "match") found named none
    (put-none (codes "name") (string entry.name) numbered refl (put-none (codes "number") (number (unsigned entry.number)) no_members refl refl))
