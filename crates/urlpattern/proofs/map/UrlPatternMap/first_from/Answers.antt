use Rattle.std.proofs.Common.{List, subst}
use Rattle.urlpattern.proofs.MapFinding.{are_keys, next_within}
use Rattle.urlpattern_pattern.proofs.Results.{if_err}
use Rattle.urlpattern_pattern.specs.UrlPatterns.{UrlPattern}
use Rattle.urlpattern.specs.FirstMatch.{HasGroupsInOrder, patterns_view}
use Rattle.urlpattern.specs.NextMatch.{CallsEngineBeforeMatchFrom, IsFirstCapturedFrom}
use Rattle.urlpattern_matches.specs.GroupTexts.{borrowed_texts}
use Rattle.urlpattern.proofs.map.UrlPatternMap.first_from.Goals as goal

pub with_value-requires : goal.with_value-requires
with_value-requires g c =
    next_within c.self.inside.patterns c.self.inside.values.items c.args.self.now c.self.invariant c.self.view_is g.R.RegExp.answer (borrowed_texts c.args.texts.now) c.args.from c.in_ok-first_from.field-0
    c.in_ok-first_from.ensures.first

pub returns-clause-first : goal.returns-clause-first
returns-clause-first g c =
    rw c.with_value.ensures.same (subst (λ (patterns : List (UrlPattern g.row.R.Denot)). IsFirstCapturedFrom g.R.RegExp.answer (patterns_view patterns) (borrowed_texts c.args.texts.now) c.args.from c.in_ok-first_from.field-0)
    (are_keys c.self.inside.patterns c.self.inside.values.items c.args.self.now c.self.invariant c.self.view_is) c.in_ok-first_from.ensures.first)

pub returns-clause-groups : goal.returns-clause-groups
returns-clause-groups g c =
    rw c.with_value.ensures.same (subst (λ (patterns : List (UrlPattern g.row.R.Denot)). HasGroupsInOrder g.R.RegExp.answer (patterns_view patterns) (borrowed_texts c.args.texts.now) c.in_ok-first_from.field-0)
    (are_keys c.self.inside.patterns c.self.inside.values.items c.args.self.now c.self.invariant c.self.view_is) c.in_ok-first_from.ensures.groups)

pub returns-in_err-first_from-clause-asked : goal.returns-in_err-first_from-clause-asked
returns-in_err-first_from-clause-asked g c =
    if_err _ c.from_residual.result
    (subst (λ (patterns : List (UrlPattern g.row.R.Denot)). CallsEngineBeforeMatchFrom g.R.RegExp.answer (patterns_view patterns) (borrowed_texts c.args.texts.now) c.args.from) (are_keys c.self.inside.patterns c.self.inside.values.items c.args.self.now c.self.invariant c.self.view_is)
    c.in_err-first_from.ensures.asked)
