use Rattle.std.proofs.Common.{◌≡◌, ℕ, List, Bor, Ok, false, take}
use Rattle.std.specs.Prelude.{string_bytes}
use Rattle.urlpattern_diagnosis.proofs.RunLemmas.{EachRunBefore, EndInRun}
use Rattle.urlpattern_diagnosis.proofs.rejected_parts.rejected_run.Given as goal

-- The characters so far are those at the end, and the callback accepts each run before them.
abbrev pub invariant-loop-token : goal.invariant-loop-token
invariant-loop-token g l = record {
  run : EndInRun (take l.token-index l.tokens) l.start (string_bytes l.row);
  accepted : EachRunBefore (λ run. (value : Bor (List ℕ)) × (value.now ≡ run) × g.F.Fn.post l.refuses (value, tt) (Ok false)) l.text l.tokens l.token-index;
}
