use Rattle.std.proofs.Common.{map, option_map, subst}
use Rattle.std.specs.Prelude.{string_bytes}
use Rattle.regex_syntax.specs.Verdict.{Reads}
use Rattle.urlpattern_expressions.proofs.SameLanguages.{shape_found}
use Rattle.urlpattern_expressions.proofs.expression_trees.expression_tree.Goals as goal

pub returns-in-Ok : goal.returns-in-Ok
returns-in-Ok c =
    let names = map (option_map string_bytes) c.in-Ok.parsed.names.items in
    let reads = subst (λ config. Reads config c.args.expression.now c.in-Ok.parsed.hir names) c.config_for.ensures c.in-Ok.ensures.ok in
    shape_found c.args.expression.now c.in-Ok.parsed.hir names reads c.tree_within.result c.tree_within.ensures.shape c.tree_within.ensures.reads
