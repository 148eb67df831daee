use Rattle.std.proofs.Common.{[], ap, arith, sym, ◌∙◌, ◌++◌, ◌≡◌}
use Rattle.std.proofs.lemmas.List.{append-nil, nil_from_length}
use Rattle.urlpattern.proofs.PatternMapLemmas.{on_err}
use Rattle.urlpattern.proofs.map.UrlPatternMap.extend.Goals as goal

pub returns-in_err-try_insert-clause-until_refused : goal.returns-in_err-try_insert-clause-until_refused
returns-in_err-try_insert-clause-until_refused g c =
    let invariant = c.loop-pattern.invariant in
    let yielded = c.loop-pattern.yielded in
    let entries = sym invariant.left ∙ ap (λ rest. yielded ++ rest) c.in-Some.ensures.steps.0 in
    on_err _ c.from_residual.result
    (yielded, (c.in-Some.pattern, c.in-Some.value), c.next.new.self.rest.items, entries, c.in_err-try_insert.ensures.unchanged ∙ invariant.appended)

pub returns-clause-appended : goal.returns-clause-appended
returns-clause-appended g c =
    let invariant = c.loop-pattern.invariant in
    let yielded = c.loop-pattern.yielded in
    let rest = c.loop-pattern.pattern-iterator.rest in
    let none : rest.items ≡ [] = nil_from_length rest.items (omega (arith, c.in-None.ensures.steps.0, rest.ok)) in
    let all : yielded ≡ c.args.entries.items = sym (append-nil yielded) ∙ ap (λ items. yielded ++ items) (sym none) ∙ invariant.left in
    invariant.appended ∙ ap (λ entries. c.args.self.now ++ entries) all
