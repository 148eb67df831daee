use Rattle.std.proofs.Common.{ap, ◌∙◌}
use Rattle.serde_json.specs.View.{view}
use Rattle.serde_json.specs.Written.{has_float}
use Rattle.urlpat_commands.proofs.FirstCommandLemmas.{first-none}
use Rattle.urlpat_matching.proofs.MatchJsonLemmas.{line_is, match-none}
use Rattle.urlpat_commands.specs.FirstJson.{IsFirstJson}
use Rattle.urlpat_matching.specs.MatchJson.{json_line}
use Rattle.urlpattern.specs.BorrowedMatches.{pattern_captures_view}
use Rattle.urlpat_commands.proofs.first_json.first_json.Goals as goal

pub returns : goal.returns
returns c =
    let result = pattern_captures_view c.args.found.now in
    let found = view c.in_ok-match_tree.field-0 in
    let none = ap has_float c.in_ok-tree.ensures ∙ first-none c.args.index found (match-none result found c.in_ok-match_tree.ensures) in
    line_is (view c.in_ok-tree.tree) c.json_line.result (IsFirstJson c.args.index result) none
    (found, c.in_ok-match_tree.ensures, ap json_line c.in_ok-tree.ensures) c.json_line.ensures
