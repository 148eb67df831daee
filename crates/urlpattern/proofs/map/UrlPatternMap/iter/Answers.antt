use Rattle.std.proofs.Common.{ap, length}
use Rattle.std.proofs.iter.runs.Sources.{from_front}
use Rattle.std.specs.Map.Iter.{deref_pair, TakesFirst}
use Rattle.urlpattern.proofs.map.UrlPatternMap.iter.Goals as goal

pub returns-clause-runs : goal.returns-clause-runs
returns-clause-runs g c = from_front (TakesFirst deref_pair) deref_pair (λ entries. entries) (λ entries rest ended. ap length ended.0) (λ entries entry rest first. first)
