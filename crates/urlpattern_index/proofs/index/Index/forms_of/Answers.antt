use Rattle.std.proofs.Common.{◌≤◌, ◌∙◌, ap, arith, length, map, sym}
use Rattle.std.proofs.lemmas.List.{length-map}
use Rattle.urlpattern_index.proofs.IndexGroupLemmas.{group-at, group-past, groups_view}
use Rattle.urlpattern_index.specs.Keys.{form_view, group}
use Rattle.urlpattern_index.specs.Listed.{Listing}
use Rattle.urlpattern_index.proofs.index.Index.forms_of.Goals as goal

pub returns-in-Some : goal.returns-in-Some
returns-in-Some c =
    let (there, same, is_some, found, rest) = c.in-Some.ensures.lookup in
    ap (map (λ form. form_view form)) c.as_slice.ensures.value
    ∙ sym (ap (λ (listing : Listing). group listing.forms c.args.number) (sym c.self.view_is) ∙ group-at c.self.inside.forms c.args.number c.in-Some.forms.now found.0 same)

pub returns-in-None : goal.returns-in-None
returns-in-None c =
    let groups = c.self.inside.forms in
    let (there, same, is_some, found, rest) = c.in-None.ensures.lookup in
    let past : length groups ≤ c.args.number = found in
    sym (ap (λ (listing : Listing). group listing.forms c.args.number) (sym c.self.view_is)
    ∙ group-past (groups_view groups) c.args.number (omega (arith, length-map groups (λ group. map (λ form. form_view form) group.items))))
