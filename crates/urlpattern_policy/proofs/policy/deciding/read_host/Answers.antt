use Rattle.std.specs.Str.{chars}
use Rattle.urlpattern_canonical.specs.Canonical.{canonical_hostname}
use Rattle.urlpattern_policy.proofs.DecisionLemmas.{refused_host}
use Rattle.urlpattern_policy.proofs.policy.deciding.read_host.Goals as goal

pub returns-in-Err-Url : goal.returns-in-Err-Url
returns-in-Err-Url c = record {
  ok = tt;
  err = refused_host (canonical_hostname (chars c.args.host.now)) _ c.in-Err-Url.error _ (rw c.in-Err-Url.field-0-is at c.in-Err-Url.ensures) c.host_refusal.ensures;
}
