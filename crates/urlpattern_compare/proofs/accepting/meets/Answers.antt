use Rattle.std.proofs.Common.{◌≡◌, ◌∙◌, ℕ, ap, sym, subst, refl, take_all}
use Rattle.std.proofs.lemmas.List.Elements.{All-more}
use Rattle.std.specs.Prelude.{IsTrue}
use Rattle.std.specs.declared.alloc.Global.{Global}
use Rattle.std.specs.declared.vec.Vec.{Vec}
use Rattle.urlpattern_compare.specs.Candidates.{MeetsEach, text_at}
use Rattle.urlpattern_compare.specs.Conditions.{accepts, is_as, is_met}
use Rattle.urlpattern_compare.proofs.CandidateLemmas.{MeetsOne}
use Rattle.urlpattern_compare.proofs.accepting.meets.Goals as goal

pub loop-condition-preserved : goal.loop-condition-preserved
loop-condition-preserved c =
    let conditions = c.args.conditions.now in
    let texts = text_at c.args.texts.now in
    let it = c.condition-item.result in
    let text_is : c.deref.result.now ≡ texts it.component = c.deref.ensures.value ∙ ap (λ (v : Vec ℕ Global). v.items) c.get-text.ensures in
    let here : IsTrue (is_met it (texts it.component)) =
    ap (λ t. is_as it.is_accepted (accepts it.automaton.now t)) (sym text_is) ∙ ap (λ b. is_as it.is_accepted b) (sym c.in_ok-found.ensures) ∙ sym c.is_as.ensures ∙ c.if-not-is_as.false in
    All-more (MeetsOne texts) conditions c.loop-condition.condition-index it c.loop-condition-test.true c.loop-condition.invariant (subst (MeetsOne texts) c.condition-item.is here)

pub returns : goal.returns
returns c = (
  λ h. subst (λ l. MeetsEach l (text_at c.args.texts.now)) (take_all c.loop-condition.condition-index c.args.conditions.now c.loop-condition-test.false) c.loop-condition.invariant,
  λ met. refl,
)
