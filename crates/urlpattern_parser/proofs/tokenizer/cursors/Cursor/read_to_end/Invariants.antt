use Rattle.std.proofs.Common.{◌≡◌, length, List}
use Rattle.std.specs.Str.{chars}
use Rattle.urlpattern_syntax.specs.Cursors.{AreTokensAfter, IsPlace}
use Rattle.urlpattern_syntax.specs.Tokens.{TokenView}
use Rattle.urlpattern_parser.proofs.tokenizer.cursors.Cursor.read_to_end.Given as goal

-- The tokens that were read, and those after the current place, are the tokens after the first
-- place.
abbrev pub invariant-loop-token : goal.invariant-loop-token
invariant-loop-token l = record {
  whole : l.cursor.input.now ≡ l.self.input.now;
  place : IsPlace (chars l.self.input.now) (chars l.cursor.rest.now);
  tokens : (tokens : List TokenView) → AreTokensAfter (chars l.self.input.now) (chars l.cursor.rest.now) tokens
      → (all : List TokenView) × AreTokensAfter (chars l.self.input.now) (chars l.self.rest.now) all;
}

abbrev pub decreases-loop-token : goal.decreases-loop-token
decreases-loop-token l = length l.cursor.rest.now
