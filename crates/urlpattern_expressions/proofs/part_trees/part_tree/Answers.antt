use Rattle.std.proofs.Common.{IfSome, subst, sym}
use Rattle.std.specs.Str.{chars}
use Rattle.urlpattern_expressions.proofs.PartShapes.{part_takes}
use Rattle.urlpattern_expressions.specs.Shapes.{IsShapeOf, IsShapeOfPart, shape}
use Rattle.urlpattern_syntax.specs.Parts.{part_view}
use Rattle.urlpattern_expressions.proofs.part_trees.part_tree.Goals as goal

pub returns-in-Ok : goal.returns-in-Ok
returns-in-Ok c =
    let part = part_view c.args.part.now in
    let inner = shape c.in-Some.inner in
    let found = subst (λ o. IfSome o (λ tree. IsShapeOf (chars c.deref.result.now) (shape tree))) c.in-Some.is c.in_ok-inner.ensures in
    let known : IsShapeOf part.value inner = subst (λ bytes. IsShapeOf (chars bytes) inner) c.deref.ensures found in
    subst (IsShapeOfPart part) (sym c.in-Ok.ensures) (part_takes part inner c.requires known)
