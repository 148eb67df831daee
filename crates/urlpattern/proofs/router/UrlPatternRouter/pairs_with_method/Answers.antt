use Rattle.std.proofs.Common.{[], ◌∙◌, ◌++◌, ◌∷◌, ◌≡◌, List, ap, append_assoc, arith, subst, sym}
use Rattle.std.proofs.lemmas.List.{append-nil, nil_from_length}
use Rattle.urlpattern.proofs.ConflictLemmas.{kept-more}
use Rattle.urlpattern.specs.Conflicts.{AreKept, OfRoutes, ShareMethod}
use Rattle.urlpattern.specs.declared.contention.Contention.{Contention}
use Rattle.urlpattern.proofs.router.UrlPatternRouter.pairs_with_method.Goals as goal

pub loop-pair-preserved : goal.loop-pair-preserved
loop-pair-preserved g c =
    let Is : Contention → Type 0 = λ pair. OfRoutes c.args.self.now.routes ShareMethod pair.first pair.second in
    record {
      kept = kept-more Is c.loop-pair.yielded c.loop-pair.kept.items c.push_if.new.list.items c.in-Some.pair c.share_method_at-share.result c.share_method_at-share.ensures c.in_ok-push_if.ensures
          c.loop-pair.invariant.kept;
      left = append_assoc c.loop-pair.yielded (c.in-Some.pair ∷ []) c.next.new.self.rest.items ∙ ap (λ rest. c.loop-pair.yielded ++ rest) (sym c.in-Some.ensures.steps.0) ∙ c.loop-pair.invariant.left;
    }

pub returns : goal.returns
returns g c =
    let yielded = c.loop-pair.yielded in
    let rest = c.loop-pair.pair-iterator.rest in
    let none : rest.items ≡ [] = nil_from_length rest.items (omega (arith, c.in-None.ensures.steps.0, rest.ok)) in
    let all : yielded ≡ c.args.pairs.items = sym (append-nil yielded) ∙ ap (λ items. yielded ++ items) (sym none) ∙ c.loop-pair.invariant.left in
    subst (λ (values : List Contention). AreKept (λ pair. OfRoutes c.args.self.now.routes ShareMethod pair.first pair.second) values c.loop-pair.kept.items) all c.loop-pair.invariant.kept
