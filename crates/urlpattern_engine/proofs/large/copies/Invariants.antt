use Rattle.std.proofs.Common.{◌≤◌, ◌*◌, length}
use denote.Text.{Utf8}
use denote.Shadow.{shadow}
use Rattle.std.specs.Str.{chars}
use Rattle.urlpattern_engine.specs.ExpressionFaults.{copies_in}
use Rattle.urlpattern_engine.proofs.large.copies.Given as goal

abbrev pub invariant-loop-c : goal.invariant-loop-c
invariant-loop-c l = record {
  is_text : shadow (Utf8 l.rest);
  small : l.copies * copies_in (chars l.rest) ≤ copies_in (chars l.regexp);
}

abbrev pub decreases-loop-c : goal.decreases-loop-c
decreases-loop-c l = length l.rest
