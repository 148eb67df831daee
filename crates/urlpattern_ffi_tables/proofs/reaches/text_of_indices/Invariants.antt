use Rattle.std.proofs.Common.{◌≡◌, map, take}
use Rattle.std.specs.Prelude.{decimal, string_bytes}
use Rattle.urlpattern_ffi_tables.proofs.reaches.text_of_indices.Given as goal

-- The texts are those of the indices so far.
abbrev pub invariant-loop-index : goal.invariant-loop-index
invariant-loop-index l = map string_bytes l.texts.items ≡ map decimal (take l.index-index l.indices)
