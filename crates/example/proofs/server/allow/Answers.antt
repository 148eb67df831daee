use Rattle.std.proofs.Common.{List, ap, codes, map, subst, ◌∙◌, ℕ}
use Rattle.std.specs.Borrow.{Bor}
use Rattle.std.specs.Iterator.{Drains, Yields}
use Rattle.std.specs.List.{join_by}
use Rattle.std.specs.Prelude.{Ok, Option, Result}
use Rattle.urlpattern.specs.Error.{Error}
use Rattle.urlpattern.specs.PatternRegexp.{PatternRegexp}
use Rattle.urlpattern.specs.PatternRegexps.{pattern_result}
use Rattle.urlpattern.specs.Routes.{YieldsMethod, allowed_left}
use Rattle.urlpattern.specs.declared.router.allowed_methods.AllowedMethods.{AllowedMethods}
use Rattle.example.proofs.server.allow.Goals as goal

abbrev Methods : Type 0
Methods = AllowedMethods (Bor (List ℕ)) PatternRegexp

abbrev Steps : Methods → Option (Result (Bor (List ℕ)) Error) → Methods → Type 0
Steps old found new = YieldsMethod pattern_result (allowed_left old) found (allowed_left new)

pub returns-clause-allow : goal.returns-clause-allow
returns-clause-allow c =
    let names = c.loop-method.names.items in
    let start = c.into_iter-method-iterator.result in
    let end = c.loop-method.method-iterator in
    let yields = subst (λ items. Yields Steps start items end) c.loop-method.invariant c.loop-method.yielded_by in
    let drains : Drains Steps start (map (λ name. Ok name) names) = (c.next.new.self, (end, yields, c.in-None.ensures.steps)) in (
      names,
      subst (λ methods. Drains Steps methods (map (λ name. Ok name) names)) c.into_iter-method-iterator.ensures.into_iter_gives drains,
      c.in_ok-join.ensures.ok ∙ ap (λ them. join_by (λ name. name.now) (codes ", ") them) c.deref.ensures.value,
    )
