-- The texts given for groups, by their names and captures.
use Rattle.std.proofs.Common.{◌≡◌, ◌∙◌, ℕ, Bool, true, false, List, [], ◌∷◌, ◌++◌, ◌⊎◌, ap, cond, inl, inr, length, map, refl, reverse, subst, sym, zip, Option, Some, None, bytes_eq, arith}
use Rattle.std.proofs.lemmas.Bool.{cases_Bool, false≢true}
use Rattle.std.proofs.lemmas.List.{map-append, reverse-append}
use Rattle.std.proofs.lemmas.List.Elements.{filter_map-append}
use Rattle.std.proofs.lemmas.Slice.Eq.{bytes_eq-Decides}
use Rattle.std.specs.List.{AllByRecursion, IsDistinct, flat_map, list_any}
use Rattle.std.specs.Map.{keys_of, lookup}
use Rattle.std.specs.Option.{option_flatten, option_or}
use Rattle.std.specs.Prelude.{◌&&◌, ◌||◌}
use Rattle.urlpattern_components.proofs.EightLemmas.{by_name}
use Rattle.urlpattern_components.specs.declared.eight.ComponentName.{ComponentName}
use Rattle.urlpattern_components.specs.declared.eight.ComponentName.TheVariants.{Protocol, Username, Password, Hostname, Port, Pathname, Search, Hash}
use Rattle.urlpattern_components.specs.Eight.{components, name_text}
use Rattle.urlpattern_generate.specs.WriteSettings.{GivenView, given_groups, given_view, text_given}
use Rattle.urlpattern_laws.specs.MatchLinks.{BorrowedGroup}
use Rattle.urlpattern_matches.proofs.MatchGroupLemmas.{cond-or, lookup-append}
use Rattle.urlpattern_matches.specs.BorrowedMatches.{GroupText, borrowed_group, named_groups, text_captured, texts_captured}

abbrev pub Groups : Type 0
Groups = List (List ℕ × Option (List ℕ))

abbrev pub given_of : GroupText → GivenView
given_of group = record { component = group.0; name = group.1; text = group.2 }

pub given_lent : (groups : List BorrowedGroup) → given_groups groups ≡ map given_of (map borrowed_group groups)
given_lent [] = refl
given_lent (group ∷ groups) = ap (λ (later : List GivenView). given_view group ∷ later) (given_lent groups)

-- ---- texts

pub bytes_flip : (name other : List ℕ) (b : Bool) → bytes_eq name other ≡ b → bytes_eq other name ≡ b
bytes_flip name other true e = (bytes_eq-Decides other name).1 (sym ((bytes_eq-Decides name other).0 e))
bytes_flip name other false e = by (cases_Bool (bytes_eq other name))
  where
    by : (bytes_eq other name ≡ true) ⊎ (bytes_eq other name ≡ false) → bytes_eq other name ≡ false
    by (inl same) = absurd (false≢true (sym e ∙ (bytes_eq-Decides name other).1 (sym ((bytes_eq-Decides other name).0 same))))
    by (inr apart) = apart

pub bytes_same : (name : List ℕ) → bytes_eq name name ≡ true
bytes_same name = (bytes_eq-Decides name name).1 refl

-- ---- the first text of a name

abbrev pub or_later : Option (List ℕ) → (here : Bool) → (later : Option (List ℕ)) → Option (List ℕ)
or_later None here later = later
or_later (Some text) here later = cond here (Some text) later

abbrev pub first_text : Groups → (name : List ℕ) → Option (List ℕ)
first_text [] name = None
first_text (group ∷ groups) name = or_later group.1 (bytes_eq group.0 name) (first_text groups name)

or-none : {X : Type 0} (found : Option X) → option_or found None ≡ found
or-none None = refl
or-none (Some x) = refl

module _ (component : ComponentName) (name : List ℕ) where
  abbrev given : List GivenView → Option (List ℕ)
  given groups = text_given groups component name

  abbrev is_own : ComponentName → Bool
  is_own other = bytes_eq (name_text other) (name_text component)

  given_append : (groups others : List GivenView) → given (groups ++ others) ≡ option_or (given groups) (given others)
  given_append [] others = refl
  given_append (group ∷ groups) others =
      ap (λ (later : Option (List ℕ)). cond (is_own group.component && bytes_eq group.name name) (Some group.text) later) (given_append groups others)
      ∙ cond-or (is_own group.component && bytes_eq group.name name) group.text (given groups) (given others)

  taken_here : (own here : Bool) (text : List ℕ) (left later : Option (List ℕ)) → left ≡ cond own later None → cond (own && here) (Some text) left ≡ cond own (cond here (Some text) later) None
  taken_here true here text left later e = ap (λ (rest : Option (List ℕ)). cond here (Some text) rest) e
  taken_here false here text left later e = e

  none_here : (own : Bool) → ◌≡◌ {A = Option (List ℕ)} None (cond own None None)
  none_here true = refl
  none_here false = refl

  own_given : (other : ComponentName) (groups : Groups) → given (map given_of (texts_captured (named_groups other groups))) ≡ cond (is_own other) (first_text groups name) None
  own_given other [] = none_here (is_own other)
  own_given other (group ∷ groups) = by group.0 group.1 (own_given other groups)
    where
      by : (own : List ℕ) (capture : Option (List ℕ)) → given (map given_of (texts_captured (named_groups other groups))) ≡ cond (is_own other) (first_text groups name) None →
          given (map given_of (texts_captured (named_groups other ((own, capture) ∷ groups)))) ≡ cond (is_own other) (or_later capture (bytes_eq own name) (first_text groups name)) None
      by own None later = later
      by own (Some text) later = taken_here (is_own other) (bytes_eq own name) text (given (map given_of (texts_captured (named_groups other groups)))) (first_text groups name) later

  either : {X : Type 0} (own any : Bool) (first found : Option X) → (own ≡ true → first ≡ found) → option_or (cond own first None) (cond any found None) ≡ cond (own || any) found None
  either true true None found same = refl
  either true true (Some x) found same = same refl
  either true false first found same = or-none first ∙ same refl
  either false any first found same = refl

  all_given : (groups_of : ComponentName → Groups) (names : List ComponentName) → ((other : ComponentName) → is_own other ≡ true → other ≡ component) →
      given (map given_of (texts_captured (flat_map (λ other. named_groups other (groups_of other)) names))) ≡ cond (list_any is_own names) (first_text (groups_of component) name) None
  all_given groups_of [] one = refl
  all_given groups_of (other ∷ names) one =
      let later = flat_map (λ (another : ComponentName). named_groups another (groups_of another)) names in
      let here = named_groups other (groups_of other) in
      ap (λ (groups : List GroupText). given (map given_of groups)) (filter_map-append text_captured here later)
      ∙ ap given (map-append given_of (texts_captured here) (texts_captured later))
      ∙ given_append (map given_of (texts_captured here)) (map given_of (texts_captured later))
      ∙ ap (λ (first : Option (List ℕ)). option_or first (given (map given_of (texts_captured later)))) (own_given other (groups_of other))
      ∙ ap (λ (rest : Option (List ℕ)). option_or (cond (is_own other) (first_text (groups_of other) name) None) rest) (all_given groups_of names one)
      ∙ either (is_own other) (list_any is_own names) (first_text (groups_of other) name) (first_text (groups_of component) name)
      (λ own. ap (λ (it : ComponentName). first_text (groups_of it) name) (one other own))

-- ---- names of components

abbrev Tested : (other component : ComponentName) → Type 0
Tested other component = bytes_eq (name_text other) (name_text component) ≡ true → other ≡ component

never : {X : Type 0} → false ≡ true → X
never e = absurd (false≢true e)

one_component : (other component : ComponentName) → Tested other component
one_component = by_name (λ other. (component : ComponentName) → Tested other component)
    (by_name (Tested Protocol) (λ e. refl) never never never never never never never)
    (by_name (Tested Username) never (λ e. refl) never never never never never never)
    (by_name (Tested Password) never never (λ e. refl) never never never never never)
    (by_name (Tested Hostname) never never never (λ e. refl) never never never never)
    (by_name (Tested Port) never never never never (λ e. refl) never never never)
    (by_name (Tested Pathname) never never never never never (λ e. refl) never never)
    (by_name (Tested Search) never never never never never never (λ e. refl) never)
    (by_name (Tested Hash) never never never never never never never (λ e. refl))

is_named : (component : ComponentName) → list_any (λ other. bytes_eq (name_text other) (name_text component)) components ≡ true
is_named = by_name (λ component. list_any (λ other. bytes_eq (name_text other) (name_text component)) components ≡ true) refl refl refl refl refl refl refl refl

-- The text given for a group is the first one with its name.
pub given_first : (groups_of : ComponentName → Groups) (groups : List BorrowedGroup) →
    map borrowed_group groups ≡ texts_captured (flat_map (λ other. named_groups other (groups_of other)) components) →
    (component : ComponentName) (name : List ℕ) → text_given (given_groups groups) component name ≡ first_text (groups_of component) name
given_first groups_of groups are component name =
    ap (λ (list : List GivenView). text_given list component name) (given_lent groups ∙ ap (map given_of) are)
    ∙ all_given component name groups_of components (λ other own. one_component other component own)
    ∙ ap (λ (any : Bool). cond any (first_text (groups_of component) name) None) (is_named component)

-- ---- distinct names

abbrev pub Distinct : Groups → Type 0
Distinct groups = IsDistinct bytes_eq (keys_of groups)

abbrev Without : (name : List ℕ) → Groups → Type 0
Without name groups = AllByRecursion (λ other. bytes_eq name other ≡ false) (keys_of groups)

none_first : (name : List ℕ) (groups : Groups) → Without name groups → first_text groups name ≡ None
none_first name [] apart = refl
none_first name (group ∷ groups) apart = by group.1 (none_first name groups apart.1)
  where
    by : (capture : Option (List ℕ)) → first_text groups name ≡ None → or_later capture (bytes_eq group.0 name) (first_text groups name) ≡ None
    by None later = later
    by (Some text) later = ap (λ (here : Bool). cond here (Some text) (first_text groups name)) (bytes_flip name group.0 false apart.0) ∙ later

none_found : (name : List ℕ) (groups : Groups) → Without name groups → lookup (bytes_eq name) groups ≡ None
none_found name [] apart = refl
none_found name (group ∷ groups) apart = ap (λ (here : Bool). cond here (Some group.1) (lookup (bytes_eq name) groups)) apart.0 ∙ none_found name groups apart.1

-- The name of the first group is not the name of a later one.
without_first : (name own : List ℕ) (groups : Groups) → bytes_eq name own ≡ true → Without own groups → Without name groups
without_first name own groups same apart = subst (λ (text : List ℕ). Without text groups) (sym ((bytes_eq-Decides name own).0 same)) apart

pub first_found : (groups : Groups) (name : List ℕ) → Distinct groups → first_text groups name ≡ option_flatten (lookup (bytes_eq name) groups)
unfolding IsDistinct
first_found [] name distinct = refl
first_found (group ∷ groups) name distinct = by (bytes_eq name group.0) refl group.1 (first_found groups name distinct.1)
  where
    by : (here : Bool) → bytes_eq name group.0 ≡ here → (capture : Option (List ℕ)) → first_text groups name ≡ option_flatten (lookup (bytes_eq name) groups) →
        or_later capture (bytes_eq group.0 name) (first_text groups name) ≡ option_flatten (cond (bytes_eq name group.0) (Some capture) (lookup (bytes_eq name) groups))
    by true e None later =
        none_first name groups (without_first name group.0 groups e distinct.0)
        ∙ ap (λ (here : Bool). option_flatten (cond here (Some None) (lookup (bytes_eq name) groups))) (sym e)
    by true e (Some text) later =
        ap (λ (here : Bool). cond here (Some text) (first_text groups name)) (bytes_flip name group.0 true e)
        ∙ ap (λ (here : Bool). option_flatten (cond here (Some (Some text)) (lookup (bytes_eq name) groups))) (sym e)
    by false e None later = later ∙ ap (λ (here : Bool). option_flatten (cond here (Some None) (lookup (bytes_eq name) groups))) (sym e)
    by false e (Some text) later =
        ap (λ (here : Bool). cond here (Some text) (first_text groups name)) (bytes_flip name group.0 false e)
        ∙ later
        ∙ ap (λ (here : Bool). option_flatten (cond here (Some (Some text)) (lookup (bytes_eq name) groups))) (sym e)

-- The last group with a name is the first.
pub found_reversed : (groups : Groups) (name : List ℕ) → Distinct groups → lookup (bytes_eq name) (reverse groups) ≡ lookup (bytes_eq name) groups
unfolding IsDistinct
found_reversed [] name distinct = refl
found_reversed (group ∷ groups) name distinct =
    ap (lookup (bytes_eq name)) (reverse-append (group ∷ []) groups) ∙ lookup-append (bytes_eq name) (reverse groups) (group ∷ [])
    ∙ ap (λ (found : Option (Option (List ℕ))). option_or found (cond (bytes_eq name group.0) (Some group.1) None)) (found_reversed groups name distinct.1)
    ∙ by (bytes_eq name group.0) refl
  where
    by : (here : Bool) → bytes_eq name group.0 ≡ here →
        option_or (lookup (bytes_eq name) groups) (cond here (Some group.1) None) ≡ cond here (Some group.1) (lookup (bytes_eq name) groups)
    by true e = ap (λ (found : Option (Option (List ℕ))). option_or found (Some group.1)) (none_found name groups (without_first name group.0 groups e distinct.0))
    by false e = or-none (lookup (bytes_eq name) groups)

-- ---- names with captures

skip_first : (name : List ℕ) (capture : Option (List ℕ)) (groups : Groups) (names : List (List ℕ)) → AllByRecursion (λ other. bytes_eq name other ≡ false) names →
    map (λ other. option_flatten (lookup (bytes_eq other) ((name, capture) ∷ groups))) names ≡ map (λ other. option_flatten (lookup (bytes_eq other) groups)) names
skip_first name capture groups [] apart = refl
skip_first name capture groups (other ∷ names) apart = λ i.
    option_flatten (cond (bytes_flip name other false apart.0 i) (Some capture) (lookup (bytes_eq other) groups)) ∷ skip_first name capture groups names apart.1 i

pub captured_again : (names : List (List ℕ)) (captures : List (Option (List ℕ))) → length captures ≡ length names → IsDistinct bytes_eq names →
    map (λ name. option_flatten (lookup (bytes_eq name) (zip names captures))) names ≡ captures
unfolding IsDistinct
captured_again [] [] many distinct = refl
captured_again [] (capture ∷ captures) many distinct = absurd (omega (arith, many))
captured_again (name ∷ names) [] many distinct = absurd (omega (arith, many))
captured_again (name ∷ names) (capture ∷ captures) many distinct =
    let fewer : length captures ≡ length names = omega (arith, many) in
    ap (λ (later : List (Option (List ℕ))). option_flatten (cond (bytes_eq name name) (Some capture) (lookup (bytes_eq name) (zip names captures))) ∷ later)
    (skip_first name capture (zip names captures) names distinct.0 ∙ captured_again names captures fewer distinct.1)
    ∙ ap (λ (here : Bool). option_flatten (cond here (Some capture) (lookup (bytes_eq name) (zip names captures))) ∷ captures) (bytes_same name)

-- Names with captures are distinct if the names are.
pub zip_distinct : (names : List (List ℕ)) (captures : List (Option (List ℕ))) → IsDistinct bytes_eq names → Distinct (zip names captures)
unfolding IsDistinct
zip_distinct [] captures distinct = tt
zip_distinct (name ∷ names) [] distinct = tt
zip_distinct (name ∷ names) (capture ∷ captures) distinct = (apart names captures distinct.0, zip_distinct names captures distinct.1)
  where
    apart : (names : List (List ℕ)) (captures : List (Option (List ℕ))) → AllByRecursion (λ other. bytes_eq name other ≡ false) names → Without name (zip names captures)
    apart [] captures differ = tt
    apart (other ∷ names) [] differ = tt
    apart (other ∷ names) (first ∷ captures) differ = (differ.0, apart names captures differ.1)
