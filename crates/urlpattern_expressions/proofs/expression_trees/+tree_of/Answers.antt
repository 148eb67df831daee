use Rattle.std.proofs.Common.{◌∙◌, ap, sym}
use Rattle.regex_hir.specs.Meaning.{meaning}
use Rattle.urlpattern_expressions.proofs.HirTrees.{repetition_reads, repetition_shape}
use Rattle.urlpattern_expressions.specs.Shapes.{pattern_shape, reads_characters}
use Rattle.urlpattern_expressions.proofs.expression_trees.+tree_of.Goals as goal

pub tree_of-returns-in_ok-inner-in-Repetition-clause-shape : goal.tree_of-returns-in_ok-inner-in-Repetition-clause-shape
tree_of-returns-in_ok-inner-in-Repetition-clause-shape t c =
    repetition_shape c.args.hir.now c.in-Repetition.min c.in-Repetition.max c.in-Repetition.greedy c.in-Repetition.sub c.in_ok-inner-in-Repetition.inner c.repeated.result c.in-Repetition.is
    (c.in_ok-inner-in-Repetition.ensures.shape ∙ ap (λ hir. pattern_shape (meaning hir)) c.deref-in-Repetition.ensures) c.repeated.ensures

pub tree_of-returns-in_ok-inner-in-Repetition-clause-reads : goal.tree_of-returns-in_ok-inner-in-Repetition-clause-reads
tree_of-returns-in_ok-inner-in-Repetition-clause-reads t c =
    repetition_reads c.args.hir.now c.in-Repetition.min c.in-Repetition.max c.in-Repetition.greedy c.in-Repetition.sub c.repeated.result c.in-Repetition.is
    (ap (λ hir. reads_characters (meaning hir)) (sym c.deref-in-Repetition.ensures) ∙ c.in_ok-inner-in-Repetition.ensures.reads)
