use Rattle.std.proofs.lemmas.Result.{IfOk-weaker}
use Rattle.std.proofs.Common.{ℕ, List, subst, sym}
use Rattle.std.specs.declared.alloc.Global.{Global}
use Rattle.std.specs.declared.vec.Vec.{Vec}
use Rattle.urlpattern_compare.proofs.AnswerLemmas.{in_some}
use Rattle.urlpattern_compare.proofs.ComponentLemmas.{example_known}
use Rattle.urlpattern_compare.specs.Examples.{IsExampleOf}
use Rattle.urlpattern_syntax.specs.declared.parser.Part.{Part}
use Rattle.urlpattern_syntax.specs.{Options.options_view, Parts.parts_view}
use Rattle.urlpattern_compare.proofs.ComponentLemmas.{anything_known}
use Rattle.urlpattern_compare.specs.Answers.{AreKnown}
use Rattle.urlpattern_compare.proofs.component_coverage.common_with_anything.Goals as goal

pub returns : goal.returns
returns c =
    IfOk-weaker c.overlaps_known.result _ _
    (λ overlap. example_known c.args.component.now c.in_ok-anything.anything overlap c.requires c.in_ok-anything.ensures.options c.in_ok-anything.ensures.parts)
    (rw c.deref-3.ensures.value at (rw c.deref-2.ensures.value at c.overlaps_known.ensures))

pub returns-in-Some : goal.returns-in-Some
returns-in-Some c =
    let options = options_view c.args.component.now.options in
    let text = c.in-Some.text in
    let made = in_some (λ (it : Vec ℕ Global). IsExampleOf options (parts_view c.deref.result.now) it.items) c.in_ok-text.field-0 text c.in-Some.is c.in_ok-text.ensures in
    let is = subst (λ (parts : List Part). IsExampleOf options (parts_view parts) text.items) c.deref.ensures.value made in
    record { known = c.requires; means = is.means; line = is.line }

pub overlaps_known-requires-clause-parts : goal.overlaps_known-requires-clause-parts
overlaps_known-requires-clause-parts c = subst (λ parts. AreKnown (options_view c.args.component.now.options) (parts_view parts)) (sym c.deref-2.ensures.value) c.requires.parts

pub overlaps_known-requires-clause-others : goal.overlaps_known-requires-clause-others
overlaps_known-requires-clause-others c =
    subst (λ parts. AreKnown (options_view c.in_ok-anything.anything.options) (parts_view parts)) (sym c.deref-3.ensures.value) (anything_known c.in_ok-anything.anything c.in_ok-anything.ensures.parts)
