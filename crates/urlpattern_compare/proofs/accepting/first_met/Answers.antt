use Rattle.std.proofs.Common.{◌∙◌, sym, subst, take_all}
use Rattle.std.proofs.lemmas.Bool.{false≢true}
use Rattle.std.proofs.lemmas.List.Elements.{All-more, at_read}
use Rattle.std.specs.List.{All}
use Rattle.std.specs.declared.alloc.Global.{Global}
use Rattle.std.specs.declared.vec.Vec.{Vec}
use Rattle.urlpattern_compare.specs.Candidates.{MeetsEach, text_at}
use Rattle.urlpattern_compare.specs.declared.condition.Condition.{Condition}
use Rattle.urlpattern_compare.proofs.accepting.first_met.Goals as goal

pub returns-then-branch : goal.returns-then-branch
returns-then-branch c =
    let texts = text_at c.args.texts.now in
    let it = c.index-lists-index.result in
    let met = subst (λ l. MeetsEach l texts) c.deref.ensures.value (c.in_ok-meets.ensures.0 c.if-branch.true) in
    (c.loop-index-test.true, at_read c.args.lists.now (λ (them : Vec Condition Global). MeetsEach them.items texts) c.loop-index.index it c.loop-index-test.true c.index-lists-index.is met)

pub loop-index-preserved : goal.loop-index-preserved
loop-index-preserved c =
    let texts = text_at c.args.texts.now in
    let it = c.index-lists-index.result in
    let P : Vec Condition Global → Type 0 = λ them. ¬ MeetsEach them.items texts in
    let unmet : P it = λ met. false≢true (sym c.if-branch.false ∙ c.in_ok-meets.ensures.1 (subst (λ l. MeetsEach l texts) (sym c.deref.ensures.value) met)) in
    All-more P c.args.lists.now c.loop-index.index it c.loop-index-test.true c.loop-index.invariant (subst P c.index-lists-index.is unmet)

pub returns : goal.returns
returns c =
    subst (λ l. All (λ (them : Vec Condition Global). ¬ MeetsEach them.items (text_at c.args.texts.now)) l) (take_all c.loop-index.index c.args.lists.now c.loop-index-test.false) c.loop-index.invariant
