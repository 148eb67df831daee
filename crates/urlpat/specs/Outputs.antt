-- The ends of lines in output. Texts are bytes.
use Rattle.std.specs.Prelude.{◌==◌, ◌-◌, ℕ, Bool, List, [], codes, if◌then◌else◌, length, not, slice_index}

-- Whether output ends within a line, after bytes that are written: as before if there are none.
abbrev pub ends_within : (before : Bool) → (bytes : List ℕ) → Bool
ends_within before [] = before
ends_within before bytes = not (slice_index bytes (length bytes - 1) == 10)

-- The end of a line in which output ends.
abbrev pub missing_end : (within : Bool) → List ℕ
missing_end within = if within then codes "\n" else []
