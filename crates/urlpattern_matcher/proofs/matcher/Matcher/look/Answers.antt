use Rattle.std.proofs.Common.{◌≡◌, ap, ◌∙◌, refl}
use Rattle.std.specs.Prelude.{Ok}
use Rattle.std.specs.Str.{chars}
use Rattle.urlpattern_meaning.specs.Matching.{RegExp}
use Rattle.urlpattern_matcher.specs.Matchers.{engine_view, inner_view, matcher_view}
use Rattle.urlpattern_matcher.proofs.MatcherResults.{answers-engine, not_matched-literal, not_matched-single, not_matched-without}
use Rattle.urlpattern_matcher.proofs.matcher.Matcher.look.Goals as goal

pub returns-in_err-middle-clause-answer : goal.returns-in_err-middle-clause-answer
returns-in_err-middle-clause-answer g c =
    rw c.from_residual.ensures (not_matched-without g.R.RegExp.answer (matcher_view c.args.self.now) (chars c.args.input.now) c.in_err-middle.ensures.none)

pub returns-else-is_same-clause-answer : goal.returns-else-is_same-clause-answer
returns-else-is_same-clause-answer g c = not_matched-literal g.R.RegExp.answer (matcher_view c.args.self.now) _ (chars c.in_ok-middle.middle.now) _ _ c.in_ok-middle.ensures.some (ap inner_view c.in-Literal.is) (rw c.deref.ensures at c.is_same.ensures) c.if-is_same.false

pub returns-else-is_captured-clause-answer : goal.returns-else-is_captured-clause-answer
returns-else-is_captured-clause-answer g c = not_matched-single g.R.RegExp.answer (matcher_view c.args.self.now) _ (chars c.in_ok-middle.middle.now) _ _ _ c.in_ok-middle.ensures.some (ap inner_view c.in-SingleCapture.is) c.is_captured.ensures c.if-is_captured.false

pub returns-in-Ok-clause-answer : goal.returns-in-Ok-clause-answer
returns-in-Ok-clause-answer g c =
    let matcher = matcher_view c.args.self.now in
    let middle = chars c.in_ok-middle.middle.now in
    answers-engine g.R.RegExp.answer matcher (chars c.args.input.now) middle c.in-Ok.engine _ c.in_ok-middle.ensures.some
    (ap inner_view c.in-RegExp.is ∙ ap (λ x. RegExp (engine_view x)) c.in-Ok.is) refl

pub returns-in-Ok-clause-asked : goal.returns-in-Ok-clause-asked
returns-in-Ok-clause-asked g c asking =
    let is_inner : (matcher_view c.args.self.now).inner ≡ RegExp (Ok c.in-Ok.engine) = ap inner_view c.in-RegExp.is ∙ ap (λ x. RegExp (engine_view x)) c.in-Ok.is in
    (chars c.in_ok-middle.middle.now, c.in_ok-middle.ensures.some, rw is_inner tt)
