use Rattle.std.proofs.Common.{subst, sym}
use Rattle.std.proofs.lemmas.Result.{IfOk-weaker}
use Rattle.urlpattern_compare.proofs.AnswerLemmas.{in_none}
use Rattle.urlpattern_compare.proofs.ComponentLemmas.{covering_known}
use Rattle.urlpattern_compare.specs.Answers.{AreKnown}
use Rattle.urlpattern_compare.specs.Comparing.{IsKnown}
use Rattle.urlpattern_syntax.specs.Options.{options_view}
use Rattle.urlpattern_syntax.specs.Parts.{parts_view}
use Rattle.urlpattern_compare.proofs.component_coverage.covers_by_meaning.Goals as goal

pub returns-in-None : goal.returns-in-None
returns-in-None c =
    let component = c.args.component.now in
    let asked = c.args.asked.now in
    let known = in_none (IsKnown component × IsKnown asked) c.in_ok-unknown_with.field-0 c.in-None.is c.in_ok-unknown_with.ensures.known in
    IfOk-weaker c.covers_known.result _ _ (λ covering. covering_known component asked covering known.0 known.1)
    (rw c.deref-in-None.ensures.value at (rw c.deref.ensures.value at c.covers_known.ensures))

pub covers_known-requires-clause-parts : goal.covers_known-requires-clause-parts
covers_known-requires-clause-parts c =
    let known = in_none (IsKnown c.args.component.now × IsKnown c.args.asked.now) c.in_ok-unknown_with.field-0 c.in-None.is c.in_ok-unknown_with.ensures.known in
    subst (λ parts. AreKnown (options_view c.args.component.now.options) (parts_view parts)) (sym c.deref.ensures.value) known.0.parts

pub covers_known-requires-clause-asked : goal.covers_known-requires-clause-asked
covers_known-requires-clause-asked c =
    let known = in_none (IsKnown c.args.component.now × IsKnown c.args.asked.now) c.in_ok-unknown_with.field-0 c.in-None.is c.in_ok-unknown_with.ensures.known in
    subst (λ parts. AreKnown (options_view c.args.asked.now.options) (parts_view parts)) (sym c.deref-in-None.ensures.value) known.1.parts
