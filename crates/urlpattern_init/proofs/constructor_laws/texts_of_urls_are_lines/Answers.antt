use Rattle.urlpattern_init.proofs.UrlTexts.{ascii_of_urls, texts_of_urls}
use Rattle.urlpattern_init.proofs.constructor_laws.texts_of_urls_are_lines.Goals as goal

pub returns-clause-lines : goal.returns-clause-lines
returns-clause-lines c = texts_of_urls

pub returns-clause-ascii : goal.returns-clause-ascii
returns-clause-ascii c = ascii_of_urls
