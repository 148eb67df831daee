use Rattle.std.proofs.Common.{◌≡◌, ◌++◌, ℕ, List, length}
use denote.Text.{Utf8}
use denote.Shadow.{shadow}
use Rattle.std.specs.Str.{chars}
use Rattle.urlpattern_policy.specs.Spellings.{plain}
use Rattle.urlpattern_policy.proofs.spelling.plain_text.Given as goal
use Rattle.urlpattern_syntax.specs.Text.{text_of}

abbrev pub invariant-loop-before : goal.invariant-loop-before
invariant-loop-before l = record {
  is_text : shadow (Utf8 l.rest);
  done : (done : List ℕ) × (chars l.text ≡ chars l.rest ++ done) × (l.spelled.items ≡ plain l.joins done);
}

abbrev pub decreases-loop-before : goal.decreases-loop-before
decreases-loop-before l = length l.rest

abbrev pub invariant-loop-c : goal.invariant-loop-c
invariant-loop-c l = text_of l.copy ++ l.spelled.items ≡ plain l.joins (chars l.text)

abbrev pub decreases-loop-c : goal.decreases-loop-c
decreases-loop-c l = length l.spelled.items
