use Rattle.std.proofs.Common.{List, subst}
use Rattle.urlpattern.proofs.MapFinding.{are_keys, first_within}
use Rattle.urlpattern_pattern.proofs.Results.{if_err}
use Rattle.urlpattern_pattern.specs.UrlPatterns.{UrlPattern}
use Rattle.urlpattern.specs.FirstMatch.{CallsEngineBeforeMatch, HasGroupsInOrder, IsFirstCaptured, patterns_view}
use Rattle.urlpattern_matches.specs.GroupTexts.{borrowed_texts}
use Rattle.urlpattern.proofs.map.UrlPatternMap.first_captures_of_texts.Goals as goal

pub with_value-requires : goal.with_value-requires
with_value-requires g c =
    first_within c.self.inside.patterns c.self.inside.values.items c.args.self.now c.self.invariant c.self.view_is g.R.RegExp.answer (borrowed_texts c.args.texts.now) c.in_ok-first_captures_of_texts.field-0 c.in_ok-first_captures_of_texts.ensures.first

pub returns-clause-first : goal.returns-clause-first
returns-clause-first g c =
    rw c.with_value.ensures.same (subst (λ (patterns : List (UrlPattern g.row.R.Denot)). IsFirstCaptured g.R.RegExp.answer (patterns_view patterns) (borrowed_texts c.args.texts.now) c.in_ok-first_captures_of_texts.field-0)
    (are_keys c.self.inside.patterns c.self.inside.values.items c.args.self.now c.self.invariant c.self.view_is) c.in_ok-first_captures_of_texts.ensures.first)

pub returns-clause-groups : goal.returns-clause-groups
returns-clause-groups g c =
    rw c.with_value.ensures.same (subst (λ (patterns : List (UrlPattern g.row.R.Denot)). HasGroupsInOrder g.R.RegExp.answer (patterns_view patterns) (borrowed_texts c.args.texts.now) c.in_ok-first_captures_of_texts.field-0)
    (are_keys c.self.inside.patterns c.self.inside.values.items c.args.self.now c.self.invariant c.self.view_is) c.in_ok-first_captures_of_texts.ensures.groups)

pub returns-in_err-first_captures_of_texts-clause-asked : goal.returns-in_err-first_captures_of_texts-clause-asked
returns-in_err-first_captures_of_texts-clause-asked g c =
    if_err _ c.from_residual.result
    (subst (λ (patterns : List (UrlPattern g.row.R.Denot)). CallsEngineBeforeMatch g.R.RegExp.answer (patterns_view patterns) (borrowed_texts c.args.texts.now)) (are_keys c.self.inside.patterns c.self.inside.values.items c.args.self.now c.self.invariant c.self.view_is) c.in_err-first_captures_of_texts.ensures.asked)
