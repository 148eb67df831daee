use Rattle.std.proofs.Common.{◌∙◌, ap, codes, subst}
use Rattle.std.specs.Iterator.{Yields}
use Rattle.std.specs.List.{join_by}
use Rattle.urlpattern.specs.Routes.{allowed_left}
use Rattle.urlpattern_ffi_tables.specs.AllowedMethodTexts.{AreMethodsOf}
use Rattle.urlpattern_ffi_tables.proofs.AllowedLemmas.{Methods, Steps, methods_drained}
use Rattle.urlpattern_ffi_tables.proofs.allowed_methods.methods_text.Goals as goal

pub returns : goal.returns
returns c =
    let methods = c.loop-method.methods.items in
    let start = c.into_iter-method-iterator.result in
    let end = c.loop-method.method-iterator in
    let yields = subst (λ items. Yields Steps start items end) c.loop-method.invariant c.loop-method.yielded_by in
    let are = methods_drained methods start (c.next.new.self, (end, yields, c.in-None.ensures.steps)) in (
      methods,
      subst (λ (left : Methods). AreMethodsOf (allowed_left left) methods) c.into_iter-method-iterator.ensures.into_iter_gives are,
      c.in_ok-join.ensures.ok ∙ ap (λ them. join_by (λ method. method.now) (codes ", ") them) c.deref.ensures.value,
    )
