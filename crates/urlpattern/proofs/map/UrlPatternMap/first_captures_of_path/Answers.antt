use Rattle.std.proofs.Common.{List, subst}
use Rattle.std.specs.Str.{chars}
use Rattle.urlpattern.proofs.MapFinding.{are_keys, first_within}
use Rattle.urlpattern_matches.specs.MatchInput.{pathname_alone}
use Rattle.urlpattern_pattern.specs.UrlPatterns.{UrlPattern}
use Rattle.urlpattern.specs.FirstMatch.{patterns_view}
use Rattle.urlpattern.specs.Paths.{HasGroupsOfPath, IsFirstOfPath, IsPathError}
use Rattle.urlpattern.proofs.map.UrlPatternMap.first_captures_of_path.Goals as goal

pub with_value-requires : goal.with_value-requires
with_value-requires g c =
    first_within c.self.inside.patterns c.self.inside.values.items c.args.self.now c.self.invariant c.self.view_is g.R.RegExp.answer (pathname_alone (chars c.args.path.now)) c.in-Ok.found (rw c.in-Ok.is at c.first_captures_of_path.ensures.first).1

pub returns-in-Ok-clause-first : goal.returns-in-Ok-clause-first
returns-in-Ok-clause-first g c =
    rw c.with_value.ensures.same (subst (λ (patterns : List (UrlPattern g.row.R.Denot)). IsFirstOfPath g.R.RegExp.answer (patterns_view patterns) (chars c.args.path.now) c.in-Ok.found)
    (are_keys c.self.inside.patterns c.self.inside.values.items c.args.self.now c.self.invariant c.self.view_is) (rw c.in-Ok.is at c.first_captures_of_path.ensures.first))

pub returns-in-Ok-clause-groups : goal.returns-in-Ok-clause-groups
returns-in-Ok-clause-groups g c =
    rw c.with_value.ensures.same (subst (λ (patterns : List (UrlPattern g.row.R.Denot)). HasGroupsOfPath g.R.RegExp.answer (patterns_view patterns) (chars c.args.path.now) c.in-Ok.found)
    (are_keys c.self.inside.patterns c.self.inside.values.items c.args.self.now c.self.invariant c.self.view_is) (rw c.in-Ok.is at c.first_captures_of_path.ensures.groups))

pub returns-in-Err-clause-refused : goal.returns-in-Err-clause-refused
returns-in-Err-clause-refused g c =
    subst (λ (patterns : List (UrlPattern g.row.R.Denot)). IsPathError g.R.RegExp.answer (patterns_view patterns) (chars c.args.path.now) c.in-Err.error) (are_keys c.self.inside.patterns c.self.inside.values.items c.args.self.now c.self.invariant c.self.view_is) (rw c.in-Err.is at c.first_captures_of_path.ensures.refused)
