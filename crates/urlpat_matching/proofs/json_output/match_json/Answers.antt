use Rattle.std.proofs.Common.{refl}
use Rattle.serde_json.specs.View.{view}
use Rattle.urlpat_matching.proofs.MatchJsonLemmas.{line_is, match-none}
use Rattle.urlpat_matching.specs.MatchJson.{IsMatchJson}
use Rattle.urlpattern_matches.specs.BorrowedMatches.{pattern_captures_view}
use Rattle.urlpat_matching.proofs.json_output.match_json.Goals as goal

pub returns : goal.returns
returns c =
    let result = pattern_captures_view c.args.found.now in
    let tree = view c.in_ok-tree.tree in
    line_is tree c.json_line.result (IsMatchJson result) (match-none result tree c.in_ok-tree.ensures) (tree, c.in_ok-tree.ensures, refl) c.json_line.ensures
