use Rattle.std.proofs.Common.{refl, true≢false, sym}
use Rattle.urlpattern_matcher.proofs.FoldedEnds.{begins-boundary, begins-same, begins-some, then_some-none, then_some-some}
use Rattle.urlpattern_matcher.proofs.matcher.strip_prefix_ignoring_case.Goals as goal

pub returns-in_err-front-clause-none : goal.returns-in_err-front-clause-none
returns-in_err-front-clause-none c =
    rw c.from_residual.ensures (λ rest begins.
    true≢false (sym (c.in_err-front.ensures.variant.1 (begins-boundary c.args.text.now c.args.prefix.now rest c.utf8.text c.utf8.prefix begins))))

pub returns-clause-some : goal.returns-clause-some
returns-clause-some c =
    then_some-some c.eq_ignore_ascii_case.result c.in_ok-front.rest c.then_some.result _ c.then_some.ensures (λ t.
    begins-some c.args.text.now c.args.prefix.now c.in_ok-front.front.now c.in_ok-front.rest.now c.utf8.text c.utf8.prefix
    (c.in_ok-front.ensures.variant.0 refl) c.in_ok-front.ensures.front c.in_ok-front.ensures.back (c.eq_ignore_ascii_case.ensures.test.0 t))

pub returns-clause-none : goal.returns-clause-none
returns-clause-none c =
    then_some-none c.eq_ignore_ascii_case.result c.in_ok-front.rest c.then_some.result _ c.then_some.ensures (λ differs rest begins.
    differs (c.eq_ignore_ascii_case.ensures.test.1 (begins-same c.args.text.now c.args.prefix.now c.in_ok-front.front.now rest c.utf8.text c.utf8.prefix c.in_ok-front.ensures.front begins)))
