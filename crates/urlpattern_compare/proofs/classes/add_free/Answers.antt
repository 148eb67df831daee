use Rattle.std.proofs.Common.{ℕ, List, subst, take, take_all}
use Rattle.std.proofs.lemmas.List.Elements.{All-more, All-weaker}
use Rattle.std.specs.List.{All, Contains}
use Rattle.urlpattern_compare.specs.Exits.{HasFree}
use Rattle.urlpattern_compare.proofs.ExitClasses.{free_more}
use Rattle.urlpattern_compare.proofs.classes.add_free.Goals as goal

-- Each code so far, with more characters.
still_free : (named classes more breaks : List ℕ) → ((c : ℕ) → Contains classes c → Contains more c) → All (HasFree named classes) breaks → All (HasFree named more) breaks
still_free named classes more breaks within all = All-weaker (HasFree named classes) (HasFree named more) (λ code frees. free_more named classes more within code frees) breaks all

pub loop-code-preserved : goal.loop-code-preserved
loop-code-preserved c =
    let named = c.args.named.now in
    let breaks = c.args.breaks.now in
    let index = c.loop-code.code-index in
    let classes = c.loop-code.classes.items in
    let more = c.add_free_from.new.classes.items in
    let kept = c.in_ok-add_free_from.ensures.kept in (
      λ x has. kept x (c.loop-code.invariant.0 x has),
      All-more (HasFree named more) breaks index 0 c.loop-code-test.true (still_free named classes more (take index breaks) kept c.loop-code.invariant.1)
          c.in_ok-add_free_from.ensures.free,
    )

pub returns-clause-free : goal.returns-clause-free
returns-clause-free c =
    subst (All (HasFree c.args.named.now c.loop-code.classes.items)) (take_all c.loop-code.code-index c.args.breaks.now c.loop-code-test.false) c.loop-code.invariant.1
