use Rattle.urlpattern_pattern.proofs.MeaningLemmas.{executed_means}
use Rattle.urlpattern_laws.proofs.laws.groups_mean_the_parts.Goals as goal

pub returns : goal.returns
returns g c = λ asked values pattern input texts found compiled are_texts short executed.
    executed_means g.R.RegExp asked values pattern compiled texts input found are_texts short executed
