use Rattle.std.proofs.Common.{List, ap, subst, sym, ◌∙◌}
use Rattle.urlpattern.proofs.MapFinding.{are_keys, entry-view, first_of_url_within}
use Rattle.urlpattern_pattern.proofs.Results.{if_err}
use Rattle.urlpattern_pattern.specs.UrlPatterns.{UrlPattern}
use Rattle.urlpattern.specs.FirstMatch.{CallsEngineBeforeMatch, HasGroupsInOrder, IsFirstMatch, first_captures_view, patterns_view}
use Rattle.urlpattern_init.specs.Inheritance.{texts_of_url}
use Rattle.urlpattern_init.specs.declared.init.UrlPatternMatchInput.TheVariants.{Url}
use Rattle.urlpattern.proofs.map.UrlPatternMap.first_captures.Goals as goal

pub with_value-requires : goal.with_value-requires
with_value-requires g c =
    first_of_url_within c.self.inside.patterns c.self.inside.values.items c.args.self.now c.self.invariant c.self.view_is g.R.RegExp.answer c.args.url.now c.in_ok-first_captures.field-0 c.in_ok-first_captures.ensures.first

pub returns-clause-first : goal.returns-clause-first
returns-clause-first g c =
    let same = ap first_captures_view (sym c.with_value.ensures.same) ∙ entry-view c.with_value.result in
    rw (sym same) (subst (λ (patterns : List (UrlPattern g.row.R.Denot)). IsFirstMatch g.R.RegExp.answer (patterns_view patterns) (Url c.args.url.now) (first_captures_view c.in_ok-first_captures.field-0))
    (are_keys c.self.inside.patterns c.self.inside.values.items c.args.self.now c.self.invariant c.self.view_is) c.in_ok-first_captures.ensures.first)

pub returns-clause-groups : goal.returns-clause-groups
returns-clause-groups g c =
    rw c.with_value.ensures.same (subst (λ (patterns : List (UrlPattern g.row.R.Denot)). HasGroupsInOrder g.R.RegExp.answer (patterns_view patterns) (texts_of_url c.args.url.now) c.in_ok-first_captures.field-0)
    (are_keys c.self.inside.patterns c.self.inside.values.items c.args.self.now c.self.invariant c.self.view_is) c.in_ok-first_captures.ensures.groups)

pub returns-in_err-first_captures-clause-asked : goal.returns-in_err-first_captures-clause-asked
returns-in_err-first_captures-clause-asked g c =
    if_err _ c.from_residual.result
    (subst (λ (patterns : List (UrlPattern g.row.R.Denot)). CallsEngineBeforeMatch g.R.RegExp.answer (patterns_view patterns) (texts_of_url c.args.url.now)) (are_keys c.self.inside.patterns c.self.inside.values.items c.args.self.now c.self.invariant c.self.view_is) c.in_err-first_captures.ensures.asked)
