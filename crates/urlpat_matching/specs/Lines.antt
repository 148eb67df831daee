-- The lines of a reader. Texts are bytes.
use Rattle.std.specs.Prelude.{◌≡◌, ◌≢◌, ◌⊎◌, ℕ, ◌<◌, Bool, List, ◌++◌, All, length, Option, OnSome, MatchBool}
use Rattle.std.specs.Io.{StopsAt, IsEmptyOrEndsWith}
use Rattle.std.specs.Io.KnownBytes.{Consumes, IsAtEnd}

-- The maximum length of a line in bytes, its end included.
abbrev pub longest : ℕ
longest = 16777216

-- `kept` is what `read_line` keeps of the line: all of it, or, of a line longer than `longest`,
-- some text that is longer than `longest` too.
abbrev pub IsLineKept : (kept line : List ℕ) → Type 0
IsLineKept kept line = (kept ≡ line) ⊎ ((longest < length kept) × (longest < length line))

-- `new` is the line `old` with `part` appended; or `old` itself, which is longer than `longest`, so
-- that `part` is dropped.
abbrev pub IsAppended : (old new part : List ℕ) → Type 0
IsAppended old new part = (new ≡ old ++ part) ⊎ ((longest < length old) × (new ≡ old))

-- A part of the bytes that a reader has left is consumed and appended to the line `old`. `ended`
-- says whether the line is complete: the part ends with a line end, or is empty at the end of the
-- input. `before` and `after` are the bytes that are left, if known.
pub record ReadsPart (before after : Option (List ℕ)) (old new : List ℕ) (ended : Bool) : Type 0
  where
    pub part : List ℕ
    pub consumed : Consumes before after part
    pub is_appended : IsAppended old new part
    pub stops : StopsAt part 10
    pub ends : MatchBool ended
        (IsEmptyOrEndsWith part 10 × (length part ≡ 0 → OnSome before (IsAtEnd after)))
        (All (λ byte. byte ≢ 10) part)

-- `ReadsPart` as a relation whose last argument is `ended`, the result of reading a part, so that a
-- contract can apply the relation to the result.
abbrev pub AppendsSome : (before after : Option (List ℕ)) → (old new : List ℕ)
    → (ended : Bool) → Type 0
AppendsSome before after old new ended = ReadsPart before after old new ended
