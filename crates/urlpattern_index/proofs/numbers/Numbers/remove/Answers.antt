use Rattle.std.proofs.Common.{rules}
use Rattle.std.specs.Prelude.{nat_eq}
use Rattle.urlpattern_index.proofs.NumberLemmas.{marked-remove, retained-listed}
use Rattle.urlpattern_index.specs.Listed.{numbers_at}
use Rattle.urlpattern_index.proofs.numbers.Numbers.remove.Goals as goal

pub invariant_of-self : goal.invariant_of-self
invariant_of-self c =
    let old = c.args.self.now in
    record {
      marked =
          marked-remove old.marks (numbers_at old.by_key) (numbers_at c.retain.new.self) c.args.number old.marked
          (λ key. retained-listed _ c.args.number _ (λ k v b w f t. search rules) (nat_eq key) old.by_key.entries c.retain.new.self.entries c.retain.ensures.filtered);
    }

pub returns : goal.returns
returns c = λ key.
    retained-listed _ c.args.number _ (λ k v b w f t. search rules) (nat_eq key) c.args.self.now.by_key.entries c.retain.new.self.entries c.retain.ensures.filtered
