-- Lemmas on the groups of forms by which an index lists patterns.
use Rattle.std.proofs.Common.{◌≡◌, ℕ, zero, suc, ◌<◌, ◌≤◌, ◌≢◌, List, [], ◌∷◌, ◌++◌, length, get_or, refl, sym, ap, subst, ◌∙◌, cond, inl, inr, arith, Bool, eqb, map, not, replicate, set, true, false}
use Rattle.std.proofs.lemmas.Bool.Decides.{nat_tests}
use Rattle.std.proofs.lemmas.List.{get_or-set_other, get_or-set_same, get_or_past, length_push, map-append}
use Rattle.std.proofs.lemmas.List.Elements.{Contains-append_cases, Contains-append_left, Contains-append_right, Contains-push}
use Rattle.std.specs.Prelude.{Contains, IsTrue, OnErr, Some, Result, Ok, Err, Vec, slice_get, slice_index_or}
use Rattle.urlpattern_index.specs.FixedTexts.{AddressTexts, FixedTexts, HasTexts}
use Rattle.urlpattern_index.specs.Keys.{HasSegmentCount, Fits, FormView, form_key, form_view, forms_for, group, group_of_form, hashes_of}
use Rattle.urlpattern_index.specs.declared.form.Form.{Form}
use Rattle.urlpattern_index.specs.Listed.{AppendsPattern, Listing}

-- ---- groups of forms

-- The groups, with more forms in the group at a number.
abbrev pub grown : (forms : List (List FormView)) → ℕ → List FormView → List (List FormView)
grown forms number more = set forms number (group forms number ++ more)

grown-same : (forms : List (List FormView)) (number : ℕ) (more : List FormView) → number < length forms → group (grown forms number more) number ≡ group forms number ++ more
grown-same forms number more within = get_or-set_same forms number (group forms number ++ more) [] within

-- Each form stays in its group.
grown-has : (forms : List (List FormView)) (number : ℕ) (more : List FormView) → number < length forms → (other : ℕ) (form : FormView) (same : Bool) → eqb other number ≡ same
    → Contains (group forms other) form → Contains (group (grown forms number more) other) form
grown-has forms number more within other form true test has =
    let is : other ≡ number = grind (arith, nat_tests) in
    let P : ℕ → Type 0 = λ n. Contains (group forms n) form → Contains (group (grown forms number more) n) form in
    subst P (sym is) (λ has. subst (λ (g : List FormView). Contains g form) (sym (grown-same forms number more within)) (Contains-append_left (group forms number) more form has)) has
grown-has forms number more within other form false test has =
    let apart : other ≢ number = grind (arith, nat_tests) in
    subst (λ (g : List FormView). Contains g form) (sym (get_or-set_other forms number other (group forms number ++ more) [] apart)) has

grown-for : (forms : List (List FormView)) (number : ℕ) (more : List FormView) → number < length forms → (count : ℕ) (form : FormView)
    → Contains (forms_for forms count) form → Contains (forms_for (grown forms number more) count) form
grown-for forms number more within count form has =
    let longer = group (grown forms number more) 0 in
    let whole = group (grown forms number more) count in
    elim (Contains-append_cases (group forms 0) (group forms count) form has) [
      | inl one ↦ Contains-append_left longer whole form (grown-has forms number more within 0 form (eqb 0 number) refl one)
      | inr other ↦ Contains-append_right longer whole form (grown-has forms number more within count form (eqb count number) refl other)
    ]

-- The view of groups.
abbrev pub groups_view : {A : Type 0} → List (Vec Form A) → List (List FormView)
groups_view groups = map (λ group. map (λ form. form_view form) group.items) groups

-- The group at a number.
pub group-at : {A : Type 0} (groups : List (Vec Form A)) (number : ℕ) (here : Vec Form A) → number < length groups → here ≡ get_or groups number here
    → group (groups_view groups) number ≡ map (λ form. form_view form) here.items
group-at [] number here within is = absurd (omega arith)
group-at {A} (first ∷ groups) zero here within is = ap (λ (g : Vec Form A). map (λ form. form_view form) g.items) (sym is)
group-at (first ∷ groups) (suc number) here within is = group-at groups number here (omega arith) is

forms-more : (forms : List Form) (form : Form) (is_new : Bool) → map (λ form. form_view form) (forms ++ cond is_new (form ∷ []) []) ≡ map (λ form. form_view form) forms ++ cond is_new (form_view form ∷ []) []
forms-more forms form true = map-append (λ form. form_view form) forms (form ∷ [])
forms-more forms form false = map-append (λ form. form_view form) forms []

-- Reserving room in a group keeps its forms.
pub groups-same : {A : Type 0} (groups : List (Vec Form A)) (number : ℕ) (here reserved : Vec Form A) → reserved.items ≡ (get_or groups number here).items
    → groups_view (set groups number reserved) ≡ groups_view groups
groups-same [] number here reserved same = refl
groups-same (first ∷ groups) zero here reserved same = ap (λ f. map (λ form. form_view form) f ∷ groups_view groups) same
groups-same (first ∷ groups) (suc number) here reserved same = ap (λ f. map (λ form. form_view form) first.items ∷ f) (groups-same groups number here reserved same)

pub listing-same : (keys same_keys : List ℕ) (forms same_forms : List (List FormView)) (old : Listing) → ◌≡◌ {A = Listing} (record { keys = keys; forms = forms }) old → same_keys ≡ keys → same_forms ≡ forms
    → ◌≡◌ {A = Listing} (record { keys = same_keys; forms = same_forms }) old
listing-same keys same_keys forms same_forms old is are_keys are_forms = rw (are_keys, are_forms) is

-- Reserving room in a group, and then appending a form.
pub groups-grown : {A : Type 0} (groups : List (Vec Form A)) (number : ℕ) (here reserved again added : Vec Form A) (form : Form) (is_new : Bool) → number < length groups
    → reserved.items ≡ (get_or groups number here).items → added.items ≡ (get_or (set groups number reserved) number again).items ++ cond is_new (form ∷ []) []
    → groups_view (set (set groups number reserved) number added) ≡ grown (groups_view groups) number (cond is_new (form_view form ∷ []) [])
groups-grown [] number here reserved again added form is_new within same adds = absurd (omega arith)
groups-grown (first ∷ groups) zero here reserved again added form is_new within same adds =
    let items : added.items ≡ first.items ++ cond is_new (form ∷ []) [] = adds ∙ ap (λ i. i ++ cond is_new (form ∷ []) []) same in
    ap (λ f. f ∷ groups_view groups) (ap (map (λ form. form_view form)) items ∙ forms-more first.items form is_new)
groups-grown (first ∷ groups) (suc number) here reserved again added form is_new within same adds =
    ap (λ f. map (λ form. form_view form) first.items ∷ f) (groups-grown groups number here reserved again added form is_new (omega arith) same adds)

pub on-err : {X E P : Type 0} (result : Result X E) → P → OnErr result P
on-err (Ok x) p = tt
on-err (Err e) p = p

pub group-past : (forms : List (List FormView)) (number : ℕ) → length forms ≤ number → group forms number ≡ []
group-past forms number past = get_or_past forms number [] past

-- Groups without forms.
pub empty-groups : {A : Type 0} (n : ℕ) (groups : List (Vec Form A)) → length groups ≡ n → ((i : ℕ) (d : Vec Form A) → i < n → (slice_index_or groups i d).items ≡ []) → groups_view groups ≡ replicate n []
empty-groups zero [] long each = refl
empty-groups zero (first ∷ groups) long each = absurd (omega arith)
empty-groups (suc n) [] long each = absurd (omega arith)
empty-groups (suc n) (first ∷ groups) long each =
    let none : first.items ≡ [] = each 0 first (omega arith) in
    rw none (ap (λ views. [] ∷ views) (empty-groups n groups (omega arith) (λ i d lt. each (suc i) d (omega arith))))

-- A form that an address fits is among those for its number of segments.
for-fitting : (forms : List (List FormView)) (form : FormView) (count : ℕ) (is_exact : Bool) → HasSegmentCount is_exact (length form.segments) count
    → Contains (group forms (cond is_exact (length form.segments) 0)) form → Contains (forms_for forms count) form
for-fitting forms form count true enough has =
    Contains-append_right (group forms 0) (group forms count) form (subst (λ n. Contains (group forms n) form) (sym enough) has)
for-fitting forms form count false enough has = Contains-append_left (group forms 0) (group forms count) form has

-- ---- appending a pattern

slice_get-more : (keys more : List ℕ) (number key : ℕ) → slice_get keys number ≡ Some key → slice_get (keys ++ more) number ≡ Some key
slice_get-more [] more number key is = absurd (cc)
slice_get-more (k ∷ keys) more zero key is = is
slice_get-more (k ∷ keys) more (suc number) key is = slice_get-more keys more number key is

slice_get-last : (keys : List ℕ) (key : ℕ) → slice_get (keys ++ key ∷ []) (length keys) ≡ Some key
slice_get-last [] key = refl
slice_get-last (k ∷ keys) key = slice_get-last keys key

pub has-form : (forms : List FormView) (form : FormView) (found : Bool) → (IsTrue found → Contains forms form) → Contains (forms ++ cond (not found) (form ∷ []) []) form
has-form forms form true has = Contains-append_left forms [] form (has refl)
has-form forms form false has = Contains-push forms form

module _ (form : FormView) (key : ℕ) (more : List FormView) (fixed : FixedTexts) (placed : (address : AddressTexts) → HasTexts fixed address → Fits form (hashes_of address) × (key ≡ form_key form (hashes_of address))) where
  appends-plain : (keys : List ℕ) (forms : List (List FormView)) → group_of_form form < length forms → Contains (group forms (group_of_form form) ++ more) form
      → AppendsPattern (record { keys = keys; forms = forms }) (record { keys = keys ++ key ∷ []; forms = grown forms (group_of_form form) more }) fixed
  appends-plain keys forms within has = record {
    one_more = length_push keys key;
    others = λ hashes number (other, is_form, fits, is). (
      other,
      grown-for forms (group_of_form form) more within (length hashes.segments) other is_form,
      fits,
      slice_get-more keys (key ∷ []) number (form_key other hashes) is,
    );
    found = λ address texts. (
        let place = placed address texts in
        let in_group = subst (λ (g : List FormView). Contains g form) (sym (grown-same forms (group_of_form form) more within)) has in (
          form,
          for-fitting (grown forms (group_of_form form) more) form (length (hashes_of address).segments) form.is_exact place.0 in_group,
          place.0,
          slice_get-last keys key ∙ ap (λ k. Some k) place.1,
        ));
  }

  pub appends : (old : Listing) (keys : List ℕ) (forms : List (List FormView)) → ◌≡◌ {A = Listing} (record { keys = keys; forms = forms }) old
      → group_of_form form < length forms → Contains (group forms (group_of_form form) ++ more) form
      → (new_keys : List ℕ) (new_forms : List (List FormView)) → new_keys ≡ keys ++ key ∷ [] → new_forms ≡ grown forms (group_of_form form) more
      → AppendsPattern old (record { keys = new_keys; forms = new_forms }) fixed
  appends old keys forms view within has new_keys new_forms are_keys are_forms =
      subst (λ (old : Listing). AppendsPattern old (record { keys = new_keys; forms = new_forms }) fixed) view (rw (are_keys, are_forms) (appends-plain keys forms within has))
