use Rattle.std.proofs.Common.{◌≡◌, length}
use denote.Text.{Utf8}
use denote.Shadow.{shadow}
use Rattle.std.specs.Str.{chars}
use Rattle.urlpattern_steps.specs.Walk.{from_first}
use Rattle.urlpattern_steps.proofs.text_cuts.skip_to_first.Given as goal

abbrev pub invariant-loop-first : goal.invariant-loop-first
invariant-loop-first l = record {
  is_text : shadow (Utf8 l.rest);
  same : from_first l.ignore_case l.c (chars l.text) ≡ from_first l.ignore_case l.c (chars l.rest);
}

abbrev pub decreases-loop-first : goal.decreases-loop-first
decreases-loop-first l = length l.rest
