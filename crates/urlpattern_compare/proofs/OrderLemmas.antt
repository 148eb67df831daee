-- The order of parts is total.
use Rattle.std.proofs.Common.{◌≡◌, ◌∙◌, ℕ, zero, suc, ◌+◌, ◌≤◌, List, [], ◌∷◌, refl, sym, ap, length, map, arith}
use Rattle.std.proofs.lemmas.Cmp.{nat_cmp_total, nat_list_cmp_total, on_total, then_total}
use Rattle.std.specs.Cmp.{IsTotalOrder}
use Rattle.std.specs.Prelude.{◌==◌, false, not}
use Rattle.std.specs.Ordering.{on, ordering_index, ordering_reverse, ordering_then, then_cmp}
use Rattle.std.specs.declared.cmp.Ordering.{Ordering}
use Rattle.std.specs.declared.cmp.Ordering.TheVariants.{Equal, Greater, Less}
use Rattle.urlpattern_compare.specs.Order.{RankView, cmp_none, first_rank, no_rank, other_ranks, parts_cmp, rank_cmp, rank_of, ranks_cmp}
use Rattle.urlpattern_syntax.specs.declared.parser.Part.{Part}

pub rank_total : IsTotalOrder rank_cmp
rank_total =
    then_total (on_total (λ (rank : RankView). rank.kind) nat_cmp_total)
    (then_total (on_total (λ (rank : RankView). rank.modifier) nat_cmp_total)
    (then_total (on_total (λ (rank : RankView). rank.prefix) nat_list_cmp_total)
    (then_total (on_total (λ (rank : RankView). rank.value) nat_list_cmp_total)
    (on_total (λ (rank : RankView). rank.suffix) nat_list_cmp_total))))

-- Ranks are compared with no ranks by `cmp_none`.
after_last : (ranks : List RankView) → ranks_cmp ranks [] ≡ cmp_none ranks
after_last [] = refl
after_last (rank ∷ ranks) = refl

pub first_decides : (ranks others : List RankView) →
    ranks_cmp ranks others ≡ ordering_then (rank_cmp (first_rank ranks) (first_rank others)) (ranks_cmp (other_ranks ranks) (other_ranks others))
first_decides [] [] = refl
first_decides [] (other ∷ others) = refl
first_decides (rank ∷ ranks) [] = ap (λ o. ordering_then (rank_cmp rank no_rank) o) (sym (after_last ranks))
first_decides (rank ∷ ranks) (other ∷ others) = refl

-- The test by which the loop continues.
pub is_equal : (order : Ordering) → not (ordering_index order == 1) ≡ false → order ≡ Equal
is_equal Less h = absurd cc
is_equal Equal h = refl
is_equal Greater h = absurd cc

-- ---- a number of pairs

first_pairs : ℕ → List RankView → List RankView → Ordering
first_pairs zero = λ ranks others. Equal
first_pairs (suc n) = then_cmp (on first_rank rank_cmp) (on other_ranks (first_pairs n))

first_pairs_total : (n : ℕ) → IsTotalOrder (first_pairs n)
unfolding first_pairs
first_pairs_total zero = record { antisymm = λ x y. refl; trans = λ x y z p q. p; congr = λ x y z p. refl }
first_pairs_total (suc n) = then_total (on_total first_rank rank_total) (on_total other_ranks (first_pairs_total n))

fewer : (n : ℕ) (ranks : List RankView) → length ranks ≤ suc n → length (other_ranks ranks) ≤ n
fewer n [] h = omega arith
fewer n (rank ∷ ranks) h = omega arith

first_pairs_are : (n : ℕ) (ranks others : List RankView) → length ranks ≤ n → length others ≤ n → first_pairs n ranks others ≡ ranks_cmp ranks others
unfolding first_pairs
first_pairs_are zero [] [] h k = refl
first_pairs_are zero [] (other ∷ others) h k = absurd (omega arith)
first_pairs_are zero (rank ∷ ranks) others h k = absurd (omega arith)
first_pairs_are (suc n) ranks others h k =
    ap (λ o. ordering_then (rank_cmp (first_rank ranks) (first_rank others)) o)
    (first_pairs_are n (other_ranks ranks) (other_ranks others) (fewer n ranks h) (fewer n others k))
    ∙ sym (first_decides ranks others)

-- ---- all pairs

ranks_antisymm : (x y : List RankView) → ranks_cmp x y ≡ ordering_reverse (ranks_cmp y x)
ranks_antisymm x y =
    let n = length x + length y in
    sym (first_pairs_are n x y (omega arith) (omega arith)) ∙ (first_pairs_total n).antisymm x y
    ∙ ap ordering_reverse (first_pairs_are n y x (omega arith) (omega arith))

ranks_trans : (x y z : List RankView) → ranks_cmp x y ≡ Less → ranks_cmp y z ≡ Less → ranks_cmp x z ≡ Less
ranks_trans x y z p q =
    let n = length x + length y + length z in
    sym (first_pairs_are n x z (omega arith) (omega arith))
    ∙ (first_pairs_total n).trans x y z (first_pairs_are n x y (omega arith) (omega arith) ∙ p) (first_pairs_are n y z (omega arith) (omega arith) ∙ q)

ranks_congr : (x y z : List RankView) → ranks_cmp x y ≡ Equal → ranks_cmp x z ≡ ranks_cmp y z
ranks_congr x y z p =
    let n = length x + length y + length z in
    sym (first_pairs_are n x z (omega arith) (omega arith))
    ∙ (first_pairs_total n).congr x y z (first_pairs_are n x y (omega arith) (omega arith) ∙ p)
    ∙ first_pairs_are n y z (omega arith) (omega arith)

pub ranks_total : IsTotalOrder ranks_cmp
ranks_total = record { antisymm = ranks_antisymm; trans = ranks_trans; congr = ranks_congr }

pub parts_total : IsTotalOrder parts_cmp
parts_total = on_total (λ (parts : List Part). map rank_of parts) ranks_total
