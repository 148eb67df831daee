use Rattle.std.proofs.Common.{◌≡◌, ◌<◌, ap, arith, length, subst, sym, ℕ, List}
use Rattle.std.proofs.lemmas.List.Elements.{All-push}
use Rattle.std.specs.Prelude.{All, Contains}
use Rattle.urlpat_tables.proofs.EndlessLemmas.{indices-more}
use Rattle.urlpat_tables.proofs.endless.indices.Goals as goal

pub loop-index-init : goal.loop-index-init
loop-index-init c =
    let none : length c.in_ok-all.all.items ≡ 0 = ap length c.in_ok-all.ensures.items in
    (none, λ index less. absurd (omega (arith, less)), λ k d less. absurd (omega (arith, less, none)))

pub loop-index-preserved : goal.loop-index-preserved
loop-index-preserved c =
    let (counted, each, within) = c.loop-index.invariant in
    let pushed = c.in_ok-push.ensures.items in (
      omega (arith, counted, c.in_ok-push.ensures.len, ap length pushed),
      λ index less. subst (λ (all : List ℕ). Contains all index) (sym pushed) (indices-more c.loop-index.all.items c.loop-index.index each index less),
      subst (All (λ (index : ℕ). index < c.args.count)) (sym pushed) (All-push (λ (index : ℕ). index < c.args.count) c.loop-index.all.items c.loop-index.index within (omega arith)),
    )
