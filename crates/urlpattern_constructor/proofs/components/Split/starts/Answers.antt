use Rattle.urlpattern_components.proofs.EightLemmas.{same_values}
use Rattle.urlpattern_constructor.specs.Splitting.{split_texts, starts_of_split}
use Rattle.urlpattern_constructor.proofs.components.Split.starts.Goals as goal

pub returns : goal.returns
returns c = same_values c.from_fn.result (starts_of_split (split_texts c.args.self.now)) (λ name. (c.from_fn.ensures name).1)
