use Rattle.std.proofs.Common.{List, length, subst, ◌<◌, ◌≤◌}
use Rattle.std.specs.Prelude.{IfSome, unwrap_or}
use Rattle.urlpattern.proofs.NextLemmas.{found-inside, found-passed}
use Rattle.urlpattern.specs.FirstMatch.{patterns_view}
use Rattle.urlpattern.specs.NextMatch.{NoneMatchBetween}
use Rattle.urlpattern_index.specs.Keys.{hashes_view}
use Rattle.urlpattern_pattern.specs.UrlPatterns.{UrlPattern}
use Rattle.urlpattern.proofs.list.UrlPatternList.next_candidate.Goals as goal

pub returns-clause-within : goal.returns-clause-within
returns-clause-within g c =
    let found = c.first_from.result in
    subst (λ (patterns : List (UrlPattern g.row.R.Denot)). IfSome found (λ index. (c.args.from ≤ index) × (index < length patterns))) c.self.view_is
    (found-inside g.R.RegExp.answer c.self.inside.patterns.items c.self.inside.index c.self.invariant.0 (hashes_view c.args.hashes.now) c.args.from found c.first_from.ensures)

pub returns-clause-passed : goal.returns-clause-passed
returns-clause-passed g c = λ texts same.
    let answer = g.R.RegExp.answer in
    let found = c.first_from.result in
    subst (λ (patterns : List (UrlPattern g.row.R.Denot)). NoneMatchBetween answer (patterns_view patterns) texts c.args.from (unwrap_or found (length (patterns_view patterns)))) c.self.view_is
    (found-passed answer texts c.self.inside.patterns.items c.self.inside.index c.self.invariant.0 (hashes_view c.args.hashes.now) same c.args.from found c.first_from.ensures)
