use Rattle.std.proofs.Common.{◌≡◌, arith, ltb, rules, subst, sym, ◌∙◌}
use Rattle.std.proofs.lemmas.Bool.Decides.{nat_tests}
use Rattle.std.proofs.lemmas.List.Sorted.{IsPartitionPoint-from_clause, IsPartitionedBy-ltb}
use Rattle.std.specs.List.Sorted.{IsNonDecreasingBy}
use Rattle.std.specs.Prelude.{slice_get}
use Rattle.urlpattern_index.proofs.NumberLemmas.{copied_at, is_first_from}
use Rattle.urlpattern_index.specs.Listed.{IsFirstFrom}
use Rattle.urlpattern_index.proofs.index.first_from.Goals as goal

pub returns : goal.returns
returns c =
    let xs = c.args.list.now in
    let from = c.args.from in
    let first = c.partition_point-first.result in
    let sorted : IsNonDecreasingBy (λ y. y) xs = c.requires in
    let point = IsPartitionPoint-from_clause (λ y. ltb y from) xs first c.partition_point-first.ensures.partitioned (IsPartitionedBy-ltb (λ y. y) xs from sorted) (λ a r q k. search rules) in
    let is : c.copied.result ≡ slice_get xs first = c.copied.ensures ∙ copied_at xs first c.get.result c.get.ensures.lookup in
    subst (IsFirstFrom from xs) (sym is)
    (is_first_from from first xs sorted
    (λ k d lt within. let test : ltb _ from ≡ _ = point.0 k d (omega arith) lt in grind (arith, nat_tests))
    (λ k d le within. let test : ltb _ from ≡ _ = point.1 k d le within in grind (arith, nat_tests)))
