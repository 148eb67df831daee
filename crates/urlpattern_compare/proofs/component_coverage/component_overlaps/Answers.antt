use Rattle.std.proofs.Common.{subst, sym}
use Rattle.std.proofs.lemmas.Result.{IfOk-weaker}
use Rattle.urlpattern_compare.proofs.AnswerLemmas.{in_none}
use Rattle.urlpattern_compare.proofs.ComponentLemmas.{overlap_known}
use Rattle.urlpattern_compare.specs.Answers.{AreKnown}
use Rattle.urlpattern_compare.specs.Comparing.{IsKnown}
use Rattle.urlpattern_syntax.specs.Options.{options_view}
use Rattle.urlpattern_syntax.specs.Parts.{parts_view}
use Rattle.urlpattern_compare.proofs.component_coverage.component_overlaps.Goals as goal

pub returns-in-None : goal.returns-in-None
returns-in-None c =
    let component = c.args.component.now in
    let other = c.args.other.now in
    let known = in_none (IsKnown component × IsKnown other) c.in_ok-unknown_with.field-0 c.in-None.is c.in_ok-unknown_with.ensures.known in
    IfOk-weaker c.overlaps_known.result _ _ (λ overlap. overlap_known component other overlap known.0 known.1)
    (rw c.deref-in-None.ensures.value at (rw c.deref.ensures.value at c.overlaps_known.ensures))

pub overlaps_known-requires-clause-parts : goal.overlaps_known-requires-clause-parts
overlaps_known-requires-clause-parts c =
    let known = in_none (IsKnown c.args.component.now × IsKnown c.args.other.now) c.in_ok-unknown_with.field-0 c.in-None.is c.in_ok-unknown_with.ensures.known in
    subst (λ parts. AreKnown (options_view c.args.component.now.options) (parts_view parts)) (sym c.deref.ensures.value) known.0.parts

pub overlaps_known-requires-clause-others : goal.overlaps_known-requires-clause-others
overlaps_known-requires-clause-others c =
    let known = in_none (IsKnown c.args.component.now × IsKnown c.args.other.now) c.in_ok-unknown_with.field-0 c.in-None.is c.in_ok-unknown_with.ensures.known in
    subst (λ parts. AreKnown (options_view c.args.other.now.options) (parts_view parts)) (sym c.deref-in-None.ensures.value) known.1.parts
