use Rattle.std.proofs.Common.{◌≡◌, ℕ, ◌≤◌, ◌<◌, true}
use Rattle.std.specs.Char.{IsScalar}
use Rattle.urlpattern_syntax.specs.Text.{is_among}
use Rattle.urlpattern_compare.proofs.classes.other_within.Given as goal

abbrev pub invariant-loop-code : goal.invariant-loop-code
invariant-loop-code l = record {
  from : l.first ≤ l.code;
  before : (c : ℕ) → IsScalar c → l.first ≤ c → c < l.code → is_among l.marks c ≡ true;
}
