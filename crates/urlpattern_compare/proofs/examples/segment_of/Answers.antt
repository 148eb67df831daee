use Rattle.std.proofs.Common.{◌≡◌, ◌∙◌, arith, refl, sym}
use Rattle.urlpattern_compare.proofs.examples.segment_of.Goals as goal

pub returns-then-but-eq97 : goal.returns-then-but-eq97
returns-then-but-eq97 c = record {
  lower = refl;
  other = λ e. let same : 98 ≡ 97 = e ∙ sym c.delimiter-but.ensures ∙ c.if-but-eq97.true in absurd (omega (arith, same));
}

pub returns-else-but-eq97 : goal.returns-else-but-eq97
returns-else-but-eq97 c = record { lower = refl; other = λ e. c.if-but-eq97.false (c.delimiter-but.ensures ∙ sym e) }
