use Rattle.std.proofs.Common.{rules}
use Rattle.serde_json.specs.View.{view}
use Rattle.urlpattern_ffi.proofs.ResultDepth.{result-shallow}
use Rattle.urlpattern_matches.proofs.ResultFloats.{result-none}
use Rattle.urlpattern_ffi.proofs.exec_calls.json_text.Goals as goal

pub returns : goal.returns
returns c =
    let tree = view c.in_ok-tree.tree in
    let (result, same, is_tree) = c.in_ok-tree.ensures.tree in
    let none = result-none _ tree is_tree in
    (result, same, (tree, is_tree, search (rules, none), c.in_ok-text.ensures.reads_back (result-shallow _ tree is_tree)))
