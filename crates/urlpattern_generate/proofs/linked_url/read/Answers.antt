use Rattle.std.proofs.Common.{None, length}
use Rattle.std.specs.Prelude.{Ok}
use Rattle.url.specs.Parser.{parse_url}
use Rattle.urlpattern_canonical.proofs.CanonicalLemmas.{reported_parse}
use Rattle.urlpattern_generate.proofs.linked_url.read.Goals as goal

pub returns-in-Ok-clause-read : goal.returns-in-Ok-clause-read
returns-in-Ok-clause-read c =
    (reported_parse c.parse.result (parse_url None c.args.line.now) (length c.args.line.now) (Ok c.in-Ok.url) c.parse.ensures c.in-Ok.ensures).0
