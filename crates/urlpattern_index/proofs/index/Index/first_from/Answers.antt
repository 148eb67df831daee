use Rattle.std.proofs.Common.{◌≤◌, ◌∙◌, ◌++◌, List, ap, map, subst}
use Rattle.urlpattern_index.proofs.NumberLemmas.{least_by_groups}
use Rattle.urlpattern_index.specs.Keys.{FormView, form_view, group, hashes_view}
use Rattle.urlpattern_index.specs.Listed.{FindsBy, IsLeast, lesser}
use Rattle.urlpattern_index.proofs.index.Index.first_from.Goals as goal

pub returns : goal.returns
returns c =
    let forms = c.args.self.now.forms in
    let hashes = hashes_view c.args.hashes.now in
    rw c.lesser.ensures
    (subst (λ (forms : List FormView). IsLeast (λ number. (c.args.from ≤ number) × FindsBy forms c.args.self.now.keys hashes number) (lesser c.first_by_forms-least.result c.first_by_forms.result))
    (ap (λ actual. actual ++ map (λ form. form_view form) c.forms_of-whole.result.now) c.forms_of.ensures ∙ ap (λ actual. group forms 0 ++ actual) (c.forms_of-whole.ensures ∙ ap (group forms) c.len.ensures.value))
    (least_by_groups _ _ c.args.self.now.keys hashes c.args.from c.first_by_forms-least.result c.first_by_forms.result c.first_by_forms-least.ensures c.first_by_forms.ensures))
