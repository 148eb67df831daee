use Rattle.std.proofs.Common.{ℕ, List, length}
use denote.Text.{Utf8}
use denote.Shadow.{shadow}
use Rattle.std.specs.Str.{chars}
use Rattle.urlpattern_syntax.proofs.Escaped.{IsEscapedTo}
use Rattle.urlpattern_syntax.specs.Writing.{marks_of}
use Rattle.urlpattern_syntax.proofs.escape.Marks.write_escaped.Given as goal

abbrev pub invariant-loop-first : goal.invariant-loop-first
invariant-loop-first g l = record {
  unwritten_is_text : shadow (Utf8 l.unwritten);
  rest_is_text : shadow (Utf8 l.rest);
  escapes : (written : List ℕ) × IsEscapedTo (marks_of l.self) (chars l.text) (chars l.unwritten) (chars l.rest) written × g.W.Writer.Writes l.initial.writer written l.writer;
}

abbrev pub decreases-loop-first : goal.decreases-loop-first
decreases-loop-first g l = length l.rest
