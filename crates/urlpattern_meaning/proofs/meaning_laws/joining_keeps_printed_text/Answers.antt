use Rattle.urlpattern_meaning.proofs.PrintingLaws.{printed_joined}
use Rattle.urlpattern_meaning.proofs.meaning_laws.joining_keeps_printed_text.Goals as goal

pub returns : goal.returns
returns c = printed_joined
