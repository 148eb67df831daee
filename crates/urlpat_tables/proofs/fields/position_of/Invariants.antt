-- No field so far has the name.
use Rattle.std.proofs.Common.{◌≢◌, ◌<◌, ℕ, Some}
use Rattle.csv.specs.Records.{field_at, fields_of}
use Rattle.urlpat_tables.proofs.fields.position_of.Given as goal

abbrev pub invariant-loop-index : goal.invariant-loop-index
invariant-loop-index l = (earlier : ℕ) → earlier < l.index → field_at (fields_of l.header) earlier ≢ Some l.name
