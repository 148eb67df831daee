use Rattle.urlpattern_meaning.proofs.CaptureCount.{captures_counted}
use Rattle.urlpattern_meaning.proofs.meaning_laws.captures_are_as_many_as_names.Goals as goal

pub returns : goal.returns
returns c = captures_counted
