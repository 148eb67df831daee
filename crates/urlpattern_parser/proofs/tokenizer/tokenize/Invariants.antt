use Rattle.std.proofs.Common.{◌≤◌, length, map}
use denote.Text.{Utf8}
use denote.Shadow.{shadow}
use Rattle.std.specs.Str.{chars}
use Rattle.urlpattern_syntax.specs.Text.{BeginsWith}
use Rattle.urlpattern_syntax.specs.Tokens.{is_ignored, token_view}
use Rattle.urlpattern_syntax.proofs.TokenLemmas.{IsCutUnder}
use Rattle.urlpattern_parser.proofs.tokenizer.tokenize.Given as goal

-- The text is cut into the tokens so far and the rest, where a token begins.
abbrev pub invariant-loop-policy : goal.invariant-loop-policy
invariant-loop-policy l = record {
  is_text : shadow (Utf8 l.rest);
  cut : IsCutUnder l.policy (chars l.input) (map token_view l.tokens.items) (chars l.rest);
  begins : ¬ BeginsWith is_ignored (chars l.rest);
  len : length l.rest ≤ length l.input;
}

abbrev pub decreases-loop-policy : goal.decreases-loop-policy
decreases-loop-policy l = length l.rest
