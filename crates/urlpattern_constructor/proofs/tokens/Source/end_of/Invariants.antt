use Rattle.std.proofs.Common.{◌≡◌, ◌+◌, ◌-◌, ◌<◌, ◌≤◌, length}
use Rattle.urlpattern_constructor.specs.Splitting.{tokens_of}
use Rattle.urlpattern_constructor.proofs.SeenLemmas.{HasNotEnded}
use Rattle.urlpattern_constructor.proofs.tokens.Source.end_of.Given as goal

-- The section has not ended yet, and each token so far was looked at once.
abbrev pub invariant-loop-section : goal.invariant-loop-section
invariant-loop-section l = record {
  within : l.position.index < length l.self.tokens.now;
  way : HasNotEnded l.section (tokens_of l.self) l.fn.from.index l.fn.from.depth l.position.index l.position.depth l.opened l.closed;
  shallow : l.position.depth + l.fn.from.index ≤ l.fn.from.depth + l.position.index;
  turns : l.position.turns + l.fn.from.index ≡ l.fn.from.turns + l.position.index;
  few_opened : l.opened ≤ l.position.index;
  few_closed : l.closed ≤ l.position.index;
}

abbrev pub decreases-loop-section : goal.decreases-loop-section
decreases-loop-section l = length l.self.tokens.now - l.position.index
