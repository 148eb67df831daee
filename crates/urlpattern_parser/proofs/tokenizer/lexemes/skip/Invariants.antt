use Rattle.std.proofs.Common.{◌≤◌, length}
use denote.Text.{Utf8}
use denote.Shadow.{shadow}
use Rattle.std.specs.Str.{chars}
use Rattle.urlpattern_syntax.specs.Tokens.{SkipsBy}
use Rattle.urlpattern_parser.proofs.tokenizer.lexemes.skip.Given as goal

-- The text before `rest` is skipped.
abbrev pub invariant-loop-first : goal.invariant-loop-first
invariant-loop-first g l = record {
  is_text : shadow (Utf8 l.rest);
  skips : SkipsBy g.K.CharKind.test (chars l.text) (chars l.rest);
  len : length l.rest ≤ length l.text;
}

abbrev pub decreases-loop-first : goal.decreases-loop-first
decreases-loop-first g l = length l.rest
