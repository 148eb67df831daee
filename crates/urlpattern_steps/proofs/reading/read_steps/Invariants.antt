use Rattle.std.proofs.Common.{length}
use denote.Text.{Utf8}
use denote.Shadow.{shadow}
use Rattle.std.specs.Str.{chars}
use Rattle.urlpattern_meaning.specs.GeneratedTexts.{IsGenerated}
use Rattle.urlpattern_steps.proofs.LeftLemmas.{IsLeft}
use Rattle.urlpattern_steps.proofs.StepReadingLemmas.{IsBegun}
use Rattle.urlpattern_steps.proofs.reading.read_steps.Given as goal

abbrev pub invariant-loop-token : goal.invariant-loop-token
invariant-loop-token l = record {
  is_text : shadow (Utf8 l.rest);
  so_far : IsBegun (chars l.regexp) l.opened (chars l.rest) l.steps.items;
  to_read : IsGenerated (chars l.regexp) → IsLeft l.opened (chars l.rest) l.steps.items;
}

abbrev pub decreases-loop-token : goal.decreases-loop-token
decreases-loop-token l = length l.rest
