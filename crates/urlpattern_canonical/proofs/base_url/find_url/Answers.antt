use Rattle.std.specs.Prelude.{option_copied}
use Rattle.urlpattern_canonical.specs.BaseUrls.{kept_base}
use Rattle.urlpattern_canonical.proofs.BaseUrlLemmas.{found_under, refused_base}
use Rattle.urlpattern_canonical.proofs.base_url.find_url.Goals as goal

pub returns-in-Ok-clause-found : goal.returns-in-Ok-clause-found
returns-in-Ok-clause-found c = found_under c.find.result c.args.text.now (kept_base c.in-Ok.base) (option_copied c.args.base) c.in-Ok.ensures.read c.find.ensures.found

pub returns-in-Err-Url-clause-found : goal.returns-in-Err-Url-clause-found
returns-in-Err-Url-clause-found c =
    refused_base c.args.text.now (option_copied c.args.base) c.in-Err-Url.field-0 c.in-Err-Url.field-0-0 c.in-Err-Url.field-0-is c.in-Err-Url.ensures.refused
