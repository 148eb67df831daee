use Rattle.std.proofs.Common.{◌≡◌, drop, map}
use Rattle.std.specs.Prelude.{IsTrue}
use Rattle.regex_hir.specs.Meaning.{alt_all, cat_all, meaning}
use Rattle.urlpattern_expressions.specs.Shapes.{pattern_shape, reads_characters, shape}
use Rattle.urlpattern_expressions.proofs.expression_trees.+tree_of.Given as goal

abbrev pub invariant-tree_of_all-loop-index : goal.invariant-tree_of_all-loop-index
invariant-tree_of_all-loop-index l =
    (shape l.found ≡ pattern_shape (cat_all (map meaning (drop l.index l.subs))))
    × IsTrue (reads_characters (cat_all (map meaning (drop l.index l.subs))))

abbrev pub invariant-tree_of_any-loop-index : goal.invariant-tree_of_any-loop-index
invariant-tree_of_any-loop-index l =
    (shape l.found ≡ pattern_shape (alt_all (map meaning (drop l.index l.subs))))
    × IsTrue (reads_characters (alt_all (map meaning (drop l.index l.subs))))
