use Rattle.std.proofs.Common.{subst, sym}
use Rattle.urlpattern_compare.proofs.ComponentLemmas.{each_line, line_doubted, line_missed}
use Rattle.urlpattern_compare.proofs.ComponentLemmas.{anything_known}
use Rattle.urlpattern_compare.specs.Answers.{AreKnown}
use Rattle.urlpattern_syntax.specs.Options.{options_view}
use Rattle.urlpattern_syntax.specs.Parts.{parts_view}
use Rattle.urlpattern_compare.proofs.component_coverage.covers_anything.Goals as goal

pub returns-in-Covered : goal.returns-in-Covered
returns-in-Covered c =
    each_line c.args.component.now c.in_ok-anything.anything c.requires c.in_ok-anything.ensures.parts
    (rw c.deref-2.ensures.value at (rw c.deref.ensures.value at (rw c.in-Covered.is at c.in_ok-covering.ensures)))

pub returns-in-NotCovered : goal.returns-in-NotCovered
returns-in-NotCovered c =
    line_missed c.args.component.now c.in_ok-anything.anything c.in-NotCovered.text.items
    (rw c.deref-2.ensures.value at (rw c.deref.ensures.value at (rw c.in-NotCovered.is at c.in_ok-covering.ensures)))

pub returns : goal.returns
returns c =
    line_doubted c.args.component.now c.in_ok-anything.anything c.in-Unknown.field-0 c.requires c.in_ok-anything.ensures.options c.in_ok-anything.ensures.parts
    (rw c.deref-2.ensures.value at (rw c.deref.ensures.value at (rw c.in-Unknown.is at c.in_ok-covering.ensures)))

pub covers_known-requires-clause-parts : goal.covers_known-requires-clause-parts
covers_known-requires-clause-parts c = subst (λ parts. AreKnown (options_view c.args.component.now.options) (parts_view parts)) (sym c.deref.ensures.value) c.requires.parts

pub covers_known-requires-clause-asked : goal.covers_known-requires-clause-asked
covers_known-requires-clause-asked c =
    subst (λ parts. AreKnown (options_view c.in_ok-anything.anything.options) (parts_view parts)) (sym c.deref-2.ensures.value) (anything_known c.in_ok-anything.anything c.in_ok-anything.ensures.parts)
