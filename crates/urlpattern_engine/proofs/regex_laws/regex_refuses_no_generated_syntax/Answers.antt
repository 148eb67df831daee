use Rattle.urlpattern_engine.proofs.PartDepths.{refused_for_memory}
use Rattle.urlpattern_engine.proofs.regex_laws.regex_refuses_no_generated_syntax.Goals as goal

pub returns : goal.returns
returns c = λ options parts plain (characters, (tree, is, few)) kind refuses. refused_for_memory options parts tree kind plain is characters few refuses
