-- The numbers so far.
use Rattle.std.proofs.Common.{◌≡◌, ◌<◌, ℕ, All, length}
use Rattle.std.specs.Prelude.{Contains}
use Rattle.urlpat_tables.proofs.endless.indices.Given as goal

abbrev pub invariant-loop-index : goal.invariant-loop-index
invariant-loop-index l =
    (length l.all.items ≡ l.index) × ((index : ℕ) → index < l.index → Contains l.all.items index) × All (λ index. index < l.count) l.all.items
