use Rattle.std.proofs.Common.{◌≡◌, ◌<◌, ◌∙◌, ◌++◌, ◌∷◌, [], ap, arith, cond, length, map, not, set, subst, sym, List}
use Rattle.std.proofs.lemmas.Bool.Decides.{nat_tests}
use Rattle.std.proofs.lemmas.Grind.{common_steps}
use Rattle.std.proofs.lemmas.List.{length-map}
use Rattle.std.specs.Prelude.{Contains}
use Rattle.urlpattern_index.proofs.IndexGroupLemmas.{appends, grown, groups-grown, groups-same, groups_view, listing-same, has-form, on-err}
use Rattle.urlpattern_index.proofs.NumberLemmas.{numbers-push}
use Rattle.urlpattern_index.specs.FixedTexts.{fixed_texts}
use Rattle.urlpattern_index.specs.Keys.{FormView, form_view, group, group_of_form}
use Rattle.urlpattern_index.specs.Listed.{Listing}
use Rattle.urlpattern_index.proofs.index.Index.push.Goals as goal

pub invariant_of-self-2 : goal.invariant_of-self-2
invariant_of-self-2 c = λ q.
    let more = numbers-push q 0 c.self.inside.keys.items c.form_key_for-form.result.key in
    let listed = c.self.invariant q in
    grind (arith, common_steps, nat_tests)

pub returns-clause-appended : goal.returns-clause-appended
returns-clause-appended c =
    let inside = c.self.inside in
    let form = c.form_key_for-form.result.form in
    let key = c.form_key_for-form.result.key in
    let found = c.has_form-is_new.result in
    let number = c.group-group.result in
    let old_forms = groups_view inside.forms in
    let more = cond (not found) (form_view form ∷ []) [] in
    let within : number < length inside.forms = omega (arith, c.group-group.ensures.bound) in
    let keys : c.push-2.new.self.items ≡ inside.keys.items ++ key ∷ [] = c.in-Ok.ensures.items ∙ ap (λ k. k ++ key ∷ []) c.reserve.ensures.items in
    let forms =
    groups-grown inside.forms number c.index-self-group.result c.reserve-2.new.self c.index-self-group-2.result c.add_form.new.forms form (not found) within
    c.reserve-2.ensures.items c.add_form.ensures
    ∙ ap (λ n. grown old_forms n more) c.group-group.ensures.group in
    let same_forms : c.args.self.now.forms ≡ old_forms = sym (ap (λ (listing : Listing). listing.forms) c.self.view_is) in
    let within_view : group_of_form (form_view form) < length old_forms =
    omega (arith, within, c.group-group.ensures.group, length-map inside.forms (λ group. map (λ form. form_view form) group.items)) in
    let has = has-form (group old_forms (group_of_form (form_view form))) (form_view form) found
    (λ is. subst (λ (f : List (List FormView)). Contains (group f (group_of_form (form_view form))) (form_view form)) same_forms (c.has_form-is_new.ensures is)) in
    appends (form_view form) key more (fixed_texts c.args.fixed) c.form_key_for-form.ensures
    c.args.self.now inside.keys.items old_forms c.self.view_is within_view has _ _ keys forms

pub returns-in_err-reserve-2-clause-unchanged : goal.returns-in_err-reserve-2-clause-unchanged
returns-in_err-reserve-2-clause-unchanged c =
    let inside = c.self.inside in
    let reserved = c.reserve-2.new.self in
    let room = groups-same inside.forms c.group-group.result c.index-self-group.result reserved c.reserve-2.ensures.items in
    let same : ◌≡◌ {A = Listing} (record { keys = c.reserve.new.self.items; forms = groups_view (set inside.forms c.group-group.result reserved) }) c.args.self.now =
    listing-same inside.keys.items c.reserve.new.self.items (groups_view inside.forms) (groups_view (set inside.forms c.group-group.result reserved)) c.args.self.now c.self.view_is c.reserve.ensures.items room in
    on-err c.from_residual-in_err-reserve-2.result same

pub returns-in_err-push-clause-unchanged : goal.returns-in_err-push-clause-unchanged
returns-in_err-push-clause-unchanged c =
    let inside = c.self.inside in
    let reserved = c.reserve-2.new.self in
    let room = groups-same inside.forms c.group-group.result c.index-self-group.result reserved c.reserve-2.ensures.items in
    let same : ◌≡◌ {A = Listing} (record { keys = c.reserve.new.self.items; forms = groups_view (set inside.forms c.group-group.result reserved) }) c.args.self.now =
    listing-same inside.keys.items c.reserve.new.self.items (groups_view inside.forms) (groups_view (set inside.forms c.group-group.result reserved)) c.args.self.now c.self.view_is c.reserve.ensures.items room in
    on-err c.from_residual-in_err-push.result same
