use Rattle.std.proofs.Common.{◌≡◌, ◌-◌, length, ap, refl, rules, subst, sym, true≢false, ◌∙◌}
use Rattle.std.specs.Prelude.{drop}
use Rattle.std.specs.Str.{IsCharBoundary}
use Rattle.urlpattern_matcher.proofs.FoldedEnds.{ends-boundary, ends-long, ends-same, ends-some, then_some-none, then_some-some}
use Rattle.urlpattern_matcher.proofs.matcher.strip_suffix_ignoring_case.Goals as goal

pub returns-in_err-at-clause-none : goal.returns-in_err-at-clause-none
returns-in_err-at-clause-none c =
    rw c.from_residual.ensures (λ rest ends. c.in_err-at.ensures (ends-long c.args.text.now c.args.suffix.now rest c.utf8.text c.utf8.suffix ends))

pub returns-in_err-rest-clause-none : goal.returns-in_err-rest-clause-none
returns-in_err-rest-clause-none c =
    let at : c.in_ok-at.at ≡ length c.args.text.now - length c.args.suffix.now = search rules in
    rw c.from_residual-in_err-rest.ensures (λ rest ends.
    let boundary = ends-boundary c.args.text.now c.args.suffix.now rest c.utf8.text c.utf8.suffix ends in
    true≢false (sym (c.in_err-rest.ensures.variant.1 (subst (λ k. IsCharBoundary c.args.text.now k) (sym at) boundary))))

pub returns-clause-some : goal.returns-clause-some
returns-clause-some c =
    then_some-some c.eq_ignore_ascii_case.result c.in_ok-rest.rest c.then_some.result _ c.then_some.ensures (λ t.
    ends-some c.args.text.now c.args.suffix.now c.in_ok-rest.rest.now c.in_ok-rest.back.now c.in_ok-at.at c.utf8.text c.utf8.suffix
    (c.in_ok-rest.ensures.variant.0 refl) c.in_ok-rest.ensures.front c.in_ok-rest.ensures.back (c.eq_ignore_ascii_case.ensures.test.0 t))

pub returns-clause-none : goal.returns-clause-none
returns-clause-none c =
    let at : c.in_ok-at.at ≡ length c.args.text.now - length c.args.suffix.now = search rules in
    then_some-none c.eq_ignore_ascii_case.result c.in_ok-rest.rest c.then_some.result _ c.then_some.ensures (λ differs rest ends.
    differs (c.eq_ignore_ascii_case.ensures.test.1 (ends-same c.args.text.now c.args.suffix.now rest c.in_ok-rest.back.now c.utf8.text c.utf8.suffix
    (c.in_ok-rest.ensures.back ∙ ap (λ n. drop n c.args.text.now) at) ends)))
