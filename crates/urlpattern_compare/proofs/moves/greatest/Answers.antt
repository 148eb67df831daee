use Rattle.std.proofs.Common.{◌≤◌, ℕ, arith, subst, take, take_all}
use Rattle.std.proofs.lemmas.List.Elements.{All-more, All-weaker}
use Rattle.std.specs.List.{All}
use Rattle.urlpattern_compare.proofs.moves.greatest.Goals as goal

pub loop-c-preserved : goal.loop-c-preserved
loop-c-preserved c =
    let block = c.args.block.now in
    let i = c.loop-c.c-index in
    let P : ℕ → ℕ → Type 0 = λ next d. d ≤ next in
    let old = c.loop-c.found in
    let new = c.greater-next.result in
    All-more (P new) block i c.c-item.result c.loop-c-test.true (All-weaker (P old) (P new) (λ d le. omega (arith, le, c.greater-next.ensures.one)) (take i block) c.loop-c.invariant)
    (subst (P new) c.c-item.is c.greater-next.ensures.other)

pub returns : goal.returns
returns c = subst (All (λ d. d ≤ c.loop-c.found)) (take_all c.loop-c.c-index c.args.block.now c.loop-c-test.false) c.loop-c.invariant
