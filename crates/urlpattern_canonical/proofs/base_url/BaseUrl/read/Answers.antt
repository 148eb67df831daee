use Rattle.urlpattern_canonical.proofs.CanonicalLemmas.{reported_parse}
use Rattle.urlpattern_canonical.specs.BaseUrls.{kept_base, read_under}
use Rattle.urlpattern_canonical.proofs.base_url.BaseUrl.read.Goals as goal

pub returns-clause-ok : goal.returns-clause-ok
returns-clause-ok c =
    let base = kept_base c.args.self.now in
    (reported_parse c.joined_url.result (read_under base c.args.text.now) c.args.bytes c.reported.result c.joined_url.ensures c.reported.ensures).0

pub returns-clause-err : goal.returns-clause-err
returns-clause-err c =
    let base = kept_base c.args.self.now in
    (reported_parse c.joined_url.result (read_under base c.args.text.now) c.args.bytes c.reported.result c.joined_url.ensures c.reported.ensures).1
