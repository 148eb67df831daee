use Rattle.std.proofs.Common.{◌≡◌, ◌∙◌, true, ap, refl, sym}
use Rattle.std.specs.Prelude.{Result}
use Rattle.urlpattern_matcher.specs.Components.{honours_case}
use Rattle.urlpattern_matcher.specs.Matchers.{inner_view}
use Rattle.urlpattern_matcher.specs.declared.matcher.InnerMatcher.{InnerMatcher}
use Rattle.urlpattern_matcher.specs.declared.regexp.RegExp.{Ghosts as Engine}
use Rattle.urlpattern_syntax.specs.declared.error.Error.{Error}
use Rattle.urlpattern_matcher.proofs.component.honours_case.Goals as goal

-- A matcher that needs no engine honours case.
no_engine : {E : Type 0} (engine : Engine E) (inner : InnerMatcher E) → ((regexp : Result E Error) → inner ≡ InnerMatcher.RegExp regexp → ⊥) → true ≡ honours_case engine (inner_view inner)
no_engine engine (InnerMatcher.Literal literal) none = refl
no_engine engine (InnerMatcher.SingleCapture filter allow_empty) none = refl
no_engine engine (InnerMatcher.RegExp regexp) none = absurd (none regexp refl)

pub returns-in_default : goal.returns-in_default
returns-in_default g c = no_engine g.R.RegExp c.args.matcher.now.inner c.in_default.not-RegExp

pub returns-in-RegExp : goal.returns-in-RegExp
returns-in-RegExp g c = c.honours_case.ensures ∙ sym (ap (λ inner. honours_case g.R.RegExp (inner_view inner)) c.in-RegExp.is)
