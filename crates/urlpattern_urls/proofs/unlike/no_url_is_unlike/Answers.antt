use Rattle.urlpattern_urls.proofs.UnlikeLemmas.{no_url_is_unlike}
use Rattle.urlpattern_urls.proofs.unlike.no_url_is_unlike.Goals as goal

pub returns : goal.returns
returns c = no_url_is_unlike
