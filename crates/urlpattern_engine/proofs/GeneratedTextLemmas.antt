-- Generated expressions with the same text are one value.
use Rattle.std.proofs.Common.{◌≡◌}
use Rattle.std.proofs.Math.Logic.{∥∥₁_prop}
use mathlib.Core.HLevel.{is_prop→PathP}
use Rattle.urlpattern_engine.specs.declared.generated_text.GeneratedText.{GeneratedText}
use Rattle.urlpattern_meaning.proofs.DialectUnique.{HasTree-prop}
use Rattle.urlpattern_meaning.specs.Dialect.{HasTree}
use Rattle.urlpattern_meaning.specs.GeneratedTexts.{IsGenerated}

pub same_generated : (one other : GeneratedText) → one.text ≡ other.text → one ≡ other
same_generated one other same = λ i. record {
  text = same i;
  is_generated = is_prop→PathP (λ j. ∥ IsGenerated (same j).characters ∥₁) (λ j. ∥∥₁_prop) one.is_generated other.is_generated i;
  tree = is_prop→PathP (λ j. HasTree (same j).characters) (λ j. HasTree-prop (same j).characters) one.tree other.tree i;
}
