use Rattle.std.proofs.Common.{◌≡◌, subst, true, ℕ}
use Rattle.std.proofs.lemmas.List.{take_all}
use Rattle.std.proofs.lemmas.List.Elements.{All-contains, All-more, Contains-get_or}
use Rattle.std.specs.Prelude.{All, Contains}
use Rattle.urlpat_tables.proofs.endless.leads_among.Goals as goal

pub returns-then-has : goal.returns-then-has
returns-then-has c = (_, Contains-get_or c.args.others.now c.loop-next.next-index 0 c.loop-next-test.true, c.has.ensures.0 c.if-has.true)

pub loop-next-preserved : goal.loop-next-preserved
loop-next-preserved c =
    All-more (λ (next : ℕ). ¬ Contains c.args.rest.now next) c.args.others.now c.loop-next.next-index 0 c.loop-next-test.true c.loop-next.invariant
    (λ has. let is : c.has.result ≡ true = c.has.ensures.1 has in absurd cc)

pub returns : goal.returns
returns c = λ next has.
    All-contains (λ (it : ℕ). ¬ Contains c.args.rest.now it) c.args.others.now next
    (subst (All (λ (it : ℕ). ¬ Contains c.args.rest.now it)) (take_all c.loop-next.next-index c.args.others.now c.loop-next-test.false) c.loop-next.invariant) has
