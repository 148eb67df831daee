use Rattle.std.proofs.Common.{subst, sym, ◌∙◌}
use Rattle.std.proofs.lemmas.Bool.{false≢true}
use Rattle.std.proofs.lemmas.Result.{err_from_is_err_and}
use Rattle.urlpattern.specs.FirstMatch.{CallsEngineBeforeMatch, HasGroupsInOrder, IsFirstMatchOf, first_captures_view, patterns_view}
use Rattle.urlpattern.proofs.list.UrlPatternList.first_captures_of_path.Goals as goal
use Rattle.urlpattern_components.specs.Eight.{Texts}

pub returns-then-not-is_path-clause-refused : goal.returns-then-not-is_path-clause-refused
returns-then-not-is_path-clause-refused g c = λ is. false≢true (sym c.if-not-is_path.true ∙ c.is_path.ensures.1 is)

pub returns-clause-first : goal.returns-clause-first
returns-clause-first g c = (
  c.is_path.ensures.0 c.if-not-is_path.false,
  subst (λ (texts : Texts). IsFirstMatchOf g.R.RegExp.answer (patterns_view c.args.self.now) texts (first_captures_view c.in_ok-first.field-0))
      c.pathname_texts.ensures c.in_ok-first.ensures.first,
)

pub returns-clause-groups : goal.returns-clause-groups
returns-clause-groups g c =
    subst (λ (texts : Texts). HasGroupsInOrder g.R.RegExp.answer (patterns_view c.args.self.now) texts c.in_ok-first.field-0)
    c.pathname_texts.ensures c.in_ok-first.ensures.groups

pub returns-in_err-first-clause-refused : goal.returns-in_err-first-clause-refused
returns-in_err-first-clause-refused g c =
    let p = err_from_is_err_and c.from_residual.result c.from_residual.ensures.1 in
    rw (p.1, p.2) (
      c.is_path.ensures.0 c.if-not-is_path.false,
      subst (λ (texts : Texts). CallsEngineBeforeMatch g.R.RegExp.answer (patterns_view c.args.self.now) texts) c.pathname_texts.ensures c.in_err-first.ensures.asked,
    )
