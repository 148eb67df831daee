use Rattle.std.proofs.Common.{◌≡◌, ◌≤◌, List, ◌++◌, length}
use denote.Text.{Utf8}
use denote.Shadow.{shadow}
use Rattle.std.specs.Str.{chars}
use Rattle.urlpattern_meaning.specs.Dialect.{Character}
use Rattle.urlpattern_steps.specs.ReadSteps.{AreCharacters, characters_text, literal_steps}
use Rattle.urlpattern_steps.proofs.SegmentTextLemmas.{AreLeft}
use Rattle.urlpattern_steps.proofs.reading.read_segments.Given as goal

abbrev pub invariant-loop-c : goal.invariant-loop-c
invariant-loop-c l = record {
  is_text : shadow (Utf8 l.rest);
  so_far : (characters : List Character) × AreCharacters characters × (chars l.text ≡ characters_text characters ++ chars l.rest) × (l.steps.items ≡ l.fn.steps.items ++ literal_steps characters);
  to_read : AreLeft l.fn.steps.items l.steps.items (chars l.text) (chars l.rest);
  shorter : length l.rest ≤ length l.text;
}

abbrev pub decreases-loop-c : goal.decreases-loop-c
decreases-loop-c l = length l.rest
