use Rattle.urlpattern_meaning.proofs.MeaningLaws.{copies_captured}
use Rattle.urlpattern_meaning.proofs.meaning_laws.copies_are_one_capture.Goals as goal

pub returns-clause-copies : goal.returns-clause-copies
returns-clause-copies c = copies_captured
