-- The trees of what `parse` reads.
use Rattle.std.proofs.Common.{◌≡◌, ◌∙◌, ℕ, Bool, true, Option, Result, Ok, Err, Box, Global, ap, subst, sym}
use Rattle.std.specs.Prelude.{IfOk, IsTrue}
use Rattle.regex_hir.proofs.MeaningLemmas.{meaning-Repetition}
use Rattle.regex_hir.specs.Meaning.{meaning, repeat}
use Rattle.regex_hir.specs.Re.{Re}
use Rattle.regex_hir.specs.declared.hir.Hir.{Hir}
use Rattle.regex_hir.specs.declared.hir.Hir.TheVariants.{Repetition}
use Rattle.urlpattern_expressions.proofs.RepeatedShapes.{repeated_reads, repeated_shape}
use Rattle.urlpattern_expressions.specs.Shapes.{pattern_shape, reads_characters, repeated, shape}
use Rattle.urlpattern_expressions.specs.declared.tree.NoTree.{NoTree}
use Rattle.urlpattern_expressions.specs.declared.tree.Tree.{Tree}

-- The tree, if there is one, has the shape of the pattern.
abbrev pub HasShape : Re → Result Tree NoTree → Type 0
HasShape re result = IfOk result (λ tree. shape tree ≡ pattern_shape re)

-- The pattern reads characters if there is a tree.
abbrev pub HasReads : Re → Result Tree NoTree → Type 0
HasReads re result = IfOk result (λ tree. IsTrue (reads_characters re))

-- What is known of the meaning of what was read.
pub reads_along : (one re : Re) (result : Result Tree NoTree) → one ≡ re → HasReads re result → HasReads one result
reads_along one re result e is = subst (λ it. HasReads it result) (sym e) is

-- What is known whether there is a tree or not.
pub known_always : (Is : Type 0) (result : Result Tree NoTree) → Is → IfOk result (λ tree. Is)
known_always Is (Ok tree) is = is
known_always Is (Err lack) is = tt

-- A repetition of what has the tree `inner`.
pub repetition_shape : (hir : Hir) (min : ℕ) (max : Option ℕ) (greedy : Bool) (sub : Box Hir Global) (inner : Tree) (result : Result Tree NoTree) → hir ≡ Repetition min max greedy sub → shape inner ≡ pattern_shape (meaning sub.value)
    → IfOk result (λ tree. shape tree ≡ repeated min max greedy (shape inner)) → HasShape (meaning hir) result
repetition_shape hir min max greedy sub inner (Ok tree) is inner_is e =
    e ∙ ap (repeated min max greedy) inner_is ∙ sym (repeated_shape min max greedy (meaning sub.value)) ∙ ap pattern_shape (sym (ap meaning is ∙ meaning-Repetition min max greedy sub))
repetition_shape hir min max greedy sub inner (Err lack) is inner_is e = tt

pub repetition_reads : (hir : Hir) (min : ℕ) (max : Option ℕ) (greedy : Bool) (sub : Box Hir Global) (result : Result Tree NoTree) → hir ≡ Repetition min max greedy sub → reads_characters (meaning sub.value) ≡ true → HasReads (meaning hir) result
repetition_reads hir min max greedy sub result is inner =
    reads_along (meaning hir) (repeat min max greedy (meaning sub.value)) result (ap meaning is ∙ meaning-Repetition min max greedy sub) (known_always (IsTrue (reads_characters (repeat min max greedy (meaning sub.value)))) result (repeated_reads min max greedy (meaning sub.value) inner))
