use Rattle.std.proofs.Common.{◌+◌, ◌≤◌, length}
use denote.Text.{Utf8}
use denote.Shadow.{shadow}
use Rattle.std.specs.Str.{chars}
use Rattle.urlpattern_syntax.proofs.BodyLemmas.{HasRead}
use Rattle.urlpattern_parser.proofs.body.split_body.Given as goal

-- what was read is the front of a body in which so many inner brackets are open
abbrev pub invariant-loop-first : goal.invariant-loop-first
invariant-loop-first l = record {
  is_text : shadow (Utf8 l.rest);
  has_read : HasRead (chars l.text) (chars l.rest) l.depth;
  few : l.depth + length l.rest ≤ length l.text;
}

abbrev pub decreases-loop-first : goal.decreases-loop-first
decreases-loop-first l = length l.rest
