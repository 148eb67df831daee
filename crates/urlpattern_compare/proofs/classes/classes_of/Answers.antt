use Rattle.std.proofs.Common.{◌≡◌, ◌∙◌, ◌∷◌, ◌++◌, [], ℕ, ap, false, subst, true}
use Rattle.std.proofs.lemmas.Result.{IfOk-weaker}
use Rattle.std.specs.Char.{IsScalar}
use Rattle.urlpattern_compare.proofs.ExitClasses.{classes_kept, classes_made, without_another}
use Rattle.urlpattern_syntax.specs.Text.{is_among}
use Rattle.urlpattern_compare.proofs.classes.classes_of.Goals as goal

pub returns-in_ok-add_free-in-Some : goal.returns-in_ok-add_free-in-Some
returns-in_ok-add_free-in-Some c =
    let exits = c.args.exits.now in
    let named = c.in_ok-named.named.items in
    let classes = c.add_free.new.classes.items in
    let are = classes_made exits named c.in_ok-breaks-in-Some.breaks.items _ classes c.in-Some.c c.in_ok-named.ensures.feed c.in_ok-named.ensures.named c.in_ok-breaks-in-Some.ensures
    (subst (λ l. is_among l c.in-Some.c ≡ false) c.deref.ensures.value c.in-Some.ensures.some)
    (c.in_ok-push-in-Some.ensures.items ∙ ap (λ l. l ++ c.in-Some.c ∷ []) (c.in_ok-classes-in-Some.ensures.items ∙ c.deref-in-Some.ensures.value))
    c.in_ok-add_free-in-Some.ensures.kept
    (rw c.deref-in-Some-3.ensures.value at (rw c.deref-in-Some-2.ensures.value at c.in_ok-add_free-in-Some.ensures.free)) in
    IfOk-weaker c.unlike_classes.result _ _ (λ kept alike. classes_kept exits classes kept.items are alike) c.unlike_classes.ensures

pub returns-in-None : goal.returns-in-None
returns-in-None c =
    without_another c.in_ok-named.named.items c.args.exits.now
    (subst (λ l. (x : ℕ) → IsScalar x → is_among l x ≡ true) c.deref.ensures.value c.in-None.ensures.none)
