use Rattle.std.proofs.Common.{◌≡◌, ◌∙◌, ap, eq-eqb, false, rules, sym}
use Rattle.std.proofs.lemmas.Bool.{false≢true}
use Rattle.std.specs.Prelude.{◌==◌, not}
use Rattle.urlpattern_compare.proofs.examples.is_plain.Goals as goal
use Rattle.urlpattern_syntax.specs.Text.{line_feed}

pub returns : goal.returns
returns c = λ yes. (
  search (rules, c.ranges.c),
  λ e.
      let no : not (c.args.c == line_feed) ≡ false = ap not (eq-eqb c.args.c line_feed e) in false≢true (sym no ∙ yes),
)
