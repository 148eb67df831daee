-- The bytes that were read so far are a part of the first line, and kept as far as its length
-- permits.
use Rattle.std.proofs.Common.{◌≢◌, ℕ, List, All}
use Rattle.std.specs.Io.KnownBytes.{Consumes}
use Rattle.urlpat_matching.specs.Lines.{IsLineKept}
use Rattle.urlpat_matching.proofs.lines.read_line.Given as goal

abbrev pub invariant-fills : goal.invariant-fills
invariant-fills g l =
    (part : List ℕ) × Consumes (g.In.Read.remaining l.initial.input) (g.In.Read.remaining l.input) part × All (λ byte. byte ≢ 10) part × IsLineKept l.line.items part
