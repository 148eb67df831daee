use Rattle.std.proofs.Common.{subst}
use Rattle.std.specs.Prelude.{IfNone, IfOk, IfSome}
use Rattle.urlpattern_compare.proofs.AnswerLemmas.{in_none, in_some}
use Rattle.urlpattern_compare.proofs.CommonLemmas.{automaton_found, lacks_by}
use Rattle.urlpattern_compare.specs.Comparing.{IsKnown, IsUnknownBy}
use Rattle.urlpattern_compare.specs.Making.{MayHaveManyStates, IsMadeOf}
use Rattle.urlpattern_syntax.specs.Options.{options_view}
use Rattle.urlpattern_syntax.specs.Parts.{parts_view}
use Rattle.urlpattern_compare.proofs.common_texts.automaton_of.Goals as goal

pub returns-in-None : goal.returns-in-None
returns-in-None c =
    let component = c.args.component.now in
    let options = options_view component.options in
    automaton_found component c.make.result (in_none (IsKnown component) c.in_ok-unknown.field-0 c.in-None.is c.in_ok-unknown.ensures.known)
    (subst (λ l. IfOk c.make.result (λ found. IfSome found (IsMadeOf options (parts_view l)))) c.deref.ensures.value c.make.ensures.made)
    (subst (λ l. IfOk c.make.result (λ found. IfNone found (MayHaveManyStates options (parts_view l)))) c.deref.ensures.value c.make.ensures.many)

pub returns-in-Some : goal.returns-in-Some
returns-in-Some c = (
  c.in-Some.field-0,
  lacks_by c.args.component.now c.in-Some.field-0 (in_some (IsUnknownBy c.args.component.now) c.in_ok-unknown.field-0 c.in-Some.field-0 c.in-Some.is c.in_ok-unknown.ensures.reason),
)
