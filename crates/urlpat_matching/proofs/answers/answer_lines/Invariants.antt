-- Output for the remaining lines completes the output so far.
use Rattle.std.proofs.Common.{◌≡◌, ℕ, ◌≤◌, List, IfSome, Some}
use Rattle.std.specs.Io.KnownBytes.{Appends}
use Rattle.urlpat_matching.proofs.LineAnswerLemmas.{Completes}
use Rattle.urlpat_matching.proofs.answers.answer_lines.Given as goal

abbrev pub invariant-lines : goal.invariant-lines
invariant-lines g l =
    (l.tally.selected ≤ l.number)
    × IfSome (g.In.Read.remaining l.initial.input) (λ text. (rest so_far : List ℕ) × (g.In.Read.remaining l.input ≡ Some rest)
    × Appends (g.Out.Write.contents l.initial.out) (g.Out.Write.contents l.out) so_far
    × Completes (g.R.Rule.Answers l.rule) l.style l.first text l.number rest l.tally.selected so_far)
