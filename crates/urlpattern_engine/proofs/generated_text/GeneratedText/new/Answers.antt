use Rattle.std.proofs.lemmas.Grind.{merely}
use Rattle.urlpattern_meaning.proofs.OneMeaning.{generated_tree}
use Rattle.urlpattern_engine.proofs.generated_text.GeneratedText.new.Goals as goal

pub invariant_of-result : goal.invariant_of-result
invariant_of-result c = record { is_generated = merely c.requires; tree = generated_tree _ c.requires }
