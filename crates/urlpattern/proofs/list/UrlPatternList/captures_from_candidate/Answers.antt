use Rattle.std.proofs.Common.{ap, subst, sym, ◌∙◌}
use Rattle.urlpattern_components.specs.Eight.{Texts}
use Rattle.urlpattern_index.specs.Keys.{hashes_of}
use Rattle.urlpattern_pattern.proofs.Results.{if_err}
use Rattle.urlpattern.specs.FirstMatch.{first_captures_view, patterns_view, HasGroupsInOrder}
use Rattle.urlpattern.specs.NextMatch.{CallsEngineBeforeMatchFrom, IsFirstMatchFrom}
use Rattle.urlpattern.specs.PatternKeys.{address_of}
use Rattle.urlpattern.proofs.list.UrlPatternList.captures_from_candidate.Goals as goal

pub first_from_candidate-requires-clause-hashes : goal.first_from_candidate-requires-clause-hashes
first_from_candidate-requires-clause-hashes g c =
    c.requires.hashes ∙ ap (λ (texts : Texts). hashes_of (address_of texts)) (sym c.url_texts.ensures)

pub returns-clause-first : goal.returns-clause-first
returns-clause-first g c =
    subst (λ (texts : Texts). IsFirstMatchFrom g.R.RegExp.answer (patterns_view c.args.self.now) texts c.args.index (first_captures_view c.in_ok-first_from_candidate.field-0))
    c.url_texts.ensures c.in_ok-first_from_candidate.ensures.first

pub returns-clause-groups : goal.returns-clause-groups
returns-clause-groups g c =
    subst (λ (texts : Texts). HasGroupsInOrder g.R.RegExp.answer (patterns_view c.args.self.now) texts c.in_ok-first_from_candidate.field-0)
    c.url_texts.ensures c.in_ok-first_from_candidate.ensures.groups

pub returns-in_err-first_from_candidate-clause-asked : goal.returns-in_err-first_from_candidate-clause-asked
returns-in_err-first_from_candidate-clause-asked g c =
    if_err _ c.from_residual.result
    (subst (λ (texts : Texts). CallsEngineBeforeMatchFrom g.R.RegExp.answer (patterns_view c.args.self.now) texts c.args.index) c.url_texts.ensures c.in_err-first_from_candidate.ensures.asked)
