use Rattle.std.proofs.Common.{subst, sym}
use Rattle.urlpattern_engine.proofs.GeneratedTextLemmas.{same_generated}
use Rattle.urlpattern_engine.specs.KeptTexts.{Characters}
use Rattle.urlpattern_meaning.specs.Dialect.{HasTree}
use Rattle.urlpattern_meaning.specs.GeneratedTexts.{IsGenerated}
use Rattle.urlpattern_engine.proofs.generated_text.GeneratedTextClone.clone.Goals as goal

pub invariant_of-result : goal.invariant_of-result
invariant_of-result c =
    let own = c.args.self.now in
    let same = sym c.in_ok-clone.ensures.cases in record {
      is_generated = subst (λ (text : Characters). ∥ IsGenerated text.characters ∥₁) same own.is_generated;
      tree = subst (λ (text : Characters). HasTree text.characters) same own.tree;
    }

pub returns : goal.returns
returns c = record { cases = same_generated _ c.args.self.now c.in_ok-clone.ensures.cases }
