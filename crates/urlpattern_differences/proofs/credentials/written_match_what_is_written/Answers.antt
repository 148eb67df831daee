use Rattle.urlpattern_differences.proofs.WrittenLemmas.{written_match}
use Rattle.urlpattern_differences.proofs.credentials.written_match_what_is_written.Goals as goal

pub returns : goal.returns
returns c = written_match
