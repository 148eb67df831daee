use Rattle.std.proofs.Common.{None, Some, inl, inr, sym, ◌∙◌}
use Rattle.std.proofs.lemmas.Bool.{false≢true}
use Rattle.std.proofs.lemmas.Result.{IfErr-weaker}
use Rattle.std.specs.Str.{chars}
use Rattle.urlpattern.proofs.FixedLemmas.{ok-weaker}
use Rattle.urlpattern_pattern.proofs.Results.{if_err}
use Rattle.urlpattern.proofs.router.UrlPatternRouter.first_for_head.Goals as goal

pub returns-in_err-own-clause-asked : goal.returns-in_err-own-clause-asked
unfolding chars
returns-in_err-own-clause-asked g c = if_err _ c.from_residual.result (inl c.in_err-own.ensures.asked)

pub returns-in_default-clause-served : goal.returns-in_default-clause-served
unfolding chars
returns-in_default-clause-served g c =
    let none = rw c.in_default.is at c.in_ok-own.ensures.found in
    ok-weaker _ _ c.first_that_takes-in_default.result c.first_that_takes-in_default.ensures.found (λ found is. inr ((None, none, tt), is))

pub returns-in_default-clause-asked : goal.returns-in_default-clause-asked
unfolding chars
returns-in_default-clause-asked g c =
    let none = rw c.in_default.is at c.in_ok-own.ensures.found in
    IfErr-weaker c.first_that_takes-in_default.result _ _ (λ error asks. inr ((None, none, tt), asks)) c.first_that_takes-in_default.ensures.asked

pub returns-then-has_method_at-clause-served : goal.returns-then-has_method_at-clause-served
unfolding chars
returns-then-has_method_at-clause-served g c = inl (rw c.in-Some.is at c.in_ok-own.ensures.found, c.has_method_at.ensures.0 c.if-has_method_at.true)

pub returns-clause-served : goal.returns-clause-served
unfolding chars
returns-clause-served g c =
    let first = rw c.in-Some.is at c.in_ok-own.ensures.found in
    ok-weaker _ _ c.first_that_takes-2.result c.first_that_takes-2.ensures.found (λ found is.
    inr ((Some (c.in-Some.index, c.in-Some.value, c.in-Some.captures), first, λ has. false≢true (sym c.if-has_method_at.false ∙ c.has_method_at.ensures.1 has)), is))

pub returns-clause-asked : goal.returns-clause-asked
unfolding chars
returns-clause-asked g c =
    let first = rw c.in-Some.is at c.in_ok-own.ensures.found in
    IfErr-weaker c.first_that_takes-2.result _ _ (λ error asks.
    inr ((Some (c.in-Some.index, c.in-Some.value, c.in-Some.captures), first, λ has. false≢true (sym c.if-has_method_at.false ∙ c.has_method_at.ensures.1 has)), asks))
    c.first_that_takes-2.ensures.asked
