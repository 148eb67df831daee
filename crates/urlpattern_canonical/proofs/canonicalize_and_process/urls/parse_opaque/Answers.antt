use Rattle.std.proofs.Common.{arith}
use Rattle.urlpattern_canonical.proofs.CanonicalLemmas.{opaque_is_parsed, memory_alone}
use Rattle.urlpattern_canonical.specs.Canonical.{opaque_url}
use Rattle.urlpattern_canonical.proofs.canonicalize_and_process.urls.parse_opaque.Goals as goal

pub returns-clause-memory : goal.returns-clause-memory
returns-clause-memory c = memory_alone opaque_url opaque_is_parsed.0 0 c.parse.result opaque_is_parsed.1 (omega arith) c.parse.ensures.err
