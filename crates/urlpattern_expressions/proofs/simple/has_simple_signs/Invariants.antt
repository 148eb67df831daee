use Rattle.std.proofs.Common.{◌≡◌, length}
use denote.Text.{Utf8}
use denote.Shadow.{shadow}
use Rattle.std.specs.Str.{chars}
use Rattle.urlpattern_expressions.specs.SimpleExpressions.{has_simple_signs}
use Rattle.urlpattern_expressions.proofs.simple.has_simple_signs.Given as goal
use Rattle.urlpattern_syntax.specs.Text.{line_feed}

-- what is left of the expression decides
abbrev pub invariant-loop-first : goal.invariant-loop-first
invariant-loop-first l = record {
  is_text : shadow (Utf8 l.rest);
  decides : has_simple_signs line_feed (chars l.expression) ≡ has_simple_signs l.before (chars l.rest);
}

abbrev pub decreases-loop-first : goal.decreases-loop-first
decreases-loop-first l = length l.rest
