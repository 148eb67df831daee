use Rattle.urlpattern_parser.proofs.ReaderLemmas.{place_first}
use Rattle.urlpattern_parser.proofs.tokenizer.cursors.Cursor.new.Goals as goal

pub returns-clause-place : goal.returns-clause-place
returns-clause-place c = place_first _ _ c.skip_ignored.ensures.skips c.skip_ignored.ensures.all
