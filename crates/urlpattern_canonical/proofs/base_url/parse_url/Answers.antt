use Rattle.std.proofs.Common.{None, length}
use Rattle.url.specs.Parser.{parse_url}
use Rattle.urlpattern_canonical.proofs.CanonicalLemmas.{reported_parse}
use Rattle.urlpattern_canonical.proofs.base_url.parse_url.Goals as goal

pub returns-clause-ok : goal.returns-clause-ok
returns-clause-ok c = (reported_parse c.parse.result (parse_url None c.args.text.now) (length c.args.text.now) c.reported.result c.parse.ensures c.reported.ensures).0

pub returns-clause-err : goal.returns-clause-err
returns-clause-err c = (reported_parse c.parse.result (parse_url None c.args.text.now) (length c.args.text.now) c.reported.result c.parse.ensures c.reported.ensures).1
