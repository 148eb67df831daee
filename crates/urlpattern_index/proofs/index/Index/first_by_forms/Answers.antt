use Rattle.std.proofs.Common.{◌≡◌, ◌≤◌, ◌+◌, ◌∙◌, ◌++◌, ◌∷◌, [], List, get_or, ap, map, subst, sym, take, take_all}
use Rattle.std.proofs.lemmas.List.{map-append, take_more}
use Rattle.urlpattern_index.proofs.NumberLemmas.{least_by_forms}
use Rattle.urlpattern_index.specs.Keys.{FormView, form_view, hashes_view}
use Rattle.urlpattern_index.specs.Listed.{FindsBy, IsLeast}
use Rattle.urlpattern_index.proofs.index.Index.first_by_forms.Goals as goal

pub loop-form-preserved : goal.loop-form-preserved
loop-form-preserved c =
    let items = c.args.forms.now in
    let index = c.loop-form.form-index in
    let form = c.form-item.result in
    let same : form_view (get_or items index form) ≡ form_view form = ap (λ f. form_view f) (sym c.form-item.is) in
    let more : map (λ form. form_view form) (take (index + 1) items) ≡ map (λ form. form_view form) (take index items) ++ form_view form ∷ [] =
    ap (map (λ form. form_view form)) (take_more items index form c.loop-form-test.true) ∙ map-append (λ form. form_view form) (take index items) (get_or items index form ∷ [])
    ∙ ap (λ f. map (λ form. form_view form) (take index items) ++ f ∷ []) same in
    rw (c.lesser-least.ensures, more)
    (least_by_forms (map (λ form. form_view form) (take index items)) (form_view form) c.args.self.now.keys (hashes_view c.args.hashes.now) c.args.from
    c.loop-form.least c.first_by.result c.loop-form.invariant c.first_by.ensures)

pub returns : goal.returns
returns c =
    let items = c.args.forms.now in
    let all : map (λ form. form_view form) (take c.loop-form.form-index items) ≡ map (λ form. form_view form) items =
    ap (map (λ form. form_view form)) (take_all c.loop-form.form-index items c.loop-form-test.false) in
    subst (λ (forms : List FormView). IsLeast (λ number. (c.args.from ≤ number) × FindsBy forms c.args.self.now.keys (hashes_view c.args.hashes.now) number) c.loop-form.least)
    all c.loop-form.invariant
