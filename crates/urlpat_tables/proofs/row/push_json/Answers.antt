use Rattle.std.proofs.Common.{ap, ◌∙◌}
use Rattle.serde_json.specs.View.{view}
use Rattle.serde_json.specs.Written.{has_float}
use Rattle.urlpat_matching.proofs.MatchJsonLemmas.{match-none}
use Rattle.urlpat_matching.specs.MatchJson.{json_line}
use Rattle.urlpat_matching.specs.Tables.{entry_view}
use Rattle.urlpat_tables.proofs.LabelLemmas.{text-appended}
use Rattle.urlpat_tables.proofs.RowLemmas.{route-none}
use Rattle.urlpat_tables.specs.TableRoutes.{IsRouteJson}
use Rattle.urlpattern.specs.BorrowedMatches.{pattern_captures_view}
use Rattle.urlpat_tables.proofs.row.push_json.Goals as goal

pub returns : goal.returns
returns c =
    let entry = entry_view c.args.entry.now in
    let result = pattern_captures_view c.args.found.now in
    let found = view c.in_ok-match_tree.field-0 in
    let matched = c.in_ok-match_tree.ensures in
    let none = ap has_float c.in_ok-tree.ensures ∙ route-none entry found (match-none result found matched) in
    text-appended (IsRouteJson entry result) c.extend_from_slice.result c.args.row.now.items c.extend_from_slice.new.self.items c.as_bytes.result.now c.extend_from_slice.ensures.items
    (found, matched, c.as_bytes.ensures.value ∙ c.in_ok-line.ensures none ∙ ap json_line c.in_ok-tree.ensures)
