use Rattle.std.proofs.lemmas.Bool.Decides.{Decides-eqb}
use Rattle.std.proofs.lemmas.List.Elements.{Decides-contains, contains_decides}
use Rattle.std.specs.Prelude.{◌==◌, ℕ}
use Rattle.urlpat_tables.proofs.endless.has.Goals as goal

pub returns : goal.returns
returns c =
    Decides-contains c.args.numbers.now c.args.number c.contains.result
    (contains_decides (λ (a b : ℕ). a == b) Decides-eqb c.args.numbers.now c.args.number c.contains.result c.contains.ensures.cases)
