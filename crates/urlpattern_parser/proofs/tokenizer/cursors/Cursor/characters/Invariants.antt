use Rattle.std.proofs.Common.{◌≤◌, length}
use denote.Text.{Utf8}
use denote.Shadow.{shadow}
use Rattle.std.specs.Str.{chars}
use Rattle.urlpattern_parser.proofs.CharacterLemmas.{LeavesLast}
use Rattle.urlpattern_parser.proofs.tokenizer.cursors.Cursor.characters.Given as goal

-- The last character that stands for itself is left, and the text after it.
abbrev pub invariant-loop-first : goal.invariant-loop-first
invariant-loop-first l = record {
  last_is_text : shadow (Utf8 l.last);
  is_text : shadow (Utf8 l.rest);
  leaves : LeavesLast (chars l.self.rest.now) (chars l.last) (chars l.rest);
  len : length l.last ≤ length l.self.rest.now;
  less : length l.rest ≤ length l.last;
}

abbrev pub decreases-loop-first : goal.decreases-loop-first
decreases-loop-first l = length l.rest
