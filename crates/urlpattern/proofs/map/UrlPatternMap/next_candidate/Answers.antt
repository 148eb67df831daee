use Rattle.std.proofs.Common.{List, subst, sym, ◌<◌, ◌≤◌}
use Rattle.std.specs.Prelude.{IfSome}
use Rattle.urlpattern.proofs.MapFinding.{are_keys, as_long}
use Rattle.urlpattern.specs.FirstMatch.{patterns_view}
use Rattle.urlpattern.specs.NextMatch.{SkipsOnlyMismatches}
use Rattle.urlpattern_index.specs.Keys.{hashes_view}
use Rattle.urlpattern_pattern.specs.UrlPatterns.{UrlPattern}
use Rattle.urlpattern.proofs.map.UrlPatternMap.next_candidate.Goals as goal

pub returns-clause-within : goal.returns-clause-within
returns-clause-within g c =
    subst (λ count. IfSome c.next_candidate.result (λ index. (c.args.from ≤ index) × (index < count)))
    (sym (as_long c.self.inside.patterns c.self.inside.values.items c.args.self.now c.self.invariant c.self.view_is)) c.next_candidate.ensures.within

pub returns-clause-passed : goal.returns-clause-passed
returns-clause-passed g c =
    subst (λ (patterns : List (UrlPattern g.row.R.Denot)). SkipsOnlyMismatches g.R.RegExp.answer (patterns_view patterns) (hashes_view c.args.hashes.now) c.args.from c.next_candidate.result)
    (are_keys c.self.inside.patterns c.self.inside.values.items c.args.self.now c.self.invariant c.self.view_is) c.next_candidate.ensures.passed
