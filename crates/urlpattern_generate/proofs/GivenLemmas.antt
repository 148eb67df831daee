-- The first value for a group, by the steps of a search.
use Rattle.std.proofs.Common.{◌≡◌, ◌+◌, ◌<◌, ◌≤◌, ℕ, Bool, true, false, List, ◌∷◌, add-one, ap, bytes_eq, drop, get_or, length, refl, sym, ◌∙◌, Some, None}
use Rattle.std.proofs.Math.Seq.{drop-cons}
use Rattle.std.proofs.lemmas.Bool.Decides.{same_from_decides}
use Rattle.std.proofs.lemmas.Slice.Eq.{bytes_eq-Decides}
use Rattle.std.proofs.lemmas.List.{drop_all}
use Rattle.std.specs.{Borrow.Bor, Str.chars}
use Rattle.std.specs.Prelude.{IsTrue, codes, if◌then◌else◌}
use Rattle.urlpattern_generate.specs.WriteSettings.{given_groups, text_given, given_view, is_given_for}
use Rattle.urlpattern_components.proofs.EightLemmas.{by_name}
use Rattle.urlpattern_components.specs.Eight.{name_text}
use Rattle.urlpattern_components.specs.declared.eight.ComponentName.{ComponentName}
use Rattle.urlpattern_components.specs.declared.eight.ComponentName.TheVariants.{Protocol, Username, Password, Hostname, Port, Pathname, Search, Hash}

abbrev pub Group : Type 0
Group = ComponentName × Bor (List ℕ) × Bor (List ℕ)

-- The remaining groups begin with the current one.
begins_here : (groups : List Group) (i : ℕ) (other : Group) → i < length groups → drop i groups ≡ get_or groups i other ∷ drop (i + 1) groups
begins_here groups i other within = drop-cons groups i other within ∙ ap (λ n. get_or groups i other ∷ drop n groups) (sym (add-one i))

step : (groups : List Group) (i : ℕ) (other : Group) (component : ComponentName) (name : List ℕ) (is : Bool) → i < length groups → is_given_for component name (given_view (get_or groups i other)) ≡ is →
    text_given (given_groups (drop i groups)) component name ≡ (if is then Some (chars (get_or groups i other).2.now) else text_given (given_groups (drop (i + 1) groups)) component name)
step groups i other component name is within test =
    ap (λ list. text_given (given_groups list) component name) (begins_here groups i other within)
    ∙ ap (λ found. if found then Some (chars (get_or groups i other).2.now) else text_given (given_groups (drop (i + 1) groups)) component name) test

pub given_here : (groups : List Group) (i : ℕ) (other : Group) (component : ComponentName) (name : List ℕ) → i < length groups →
    is_given_for component name (given_view (get_or groups i other)) ≡ true → text_given (given_groups (drop i groups)) component name ≡ Some (chars (get_or groups i other).2.now)
given_here groups i other component name within test = step groups i other component name true within test

pub given_later : (groups : List Group) (i : ℕ) (other : Group) (component : ComponentName) (name : List ℕ) → i < length groups →
    is_given_for component name (given_view (get_or groups i other)) ≡ false → text_given (given_groups (drop (i + 1) groups)) component name ≡ text_given (given_groups (drop i groups)) component name
given_later groups i other component name within test = sym (step groups i other component name false within test)

pub given_never : (groups : List Group) (i : ℕ) (component : ComponentName) (name : List ℕ) → length groups ≤ i → text_given (given_groups (drop i groups)) component name ≡ None
given_never groups i component name past = ap (λ list. text_given (given_groups list) component name) (drop_all i groups past)

-- ---- components by their names

-- The component of a name.
named : (text : List ℕ) → ComponentName
named text =
    if bytes_eq text (codes "protocol") then Protocol
    else (if bytes_eq text (codes "username") then Username
    else (if bytes_eq text (codes "password") then Password
    else (if bytes_eq text (codes "hostname") then Hostname
    else (if bytes_eq text (codes "port") then Port
    else (if bytes_eq text (codes "pathname") then Pathname
    else (if bytes_eq text (codes "search") then Search
    else Hash))))))

named_by_name : (component : ComponentName) → named (name_text component) ≡ component
unfolding named
named_by_name = by_name (λ component. named (name_text component) ≡ component) refl refl refl refl refl refl refl refl

-- Two components are equal by a test of their names.
pub names_tested : (one other : ComponentName) (is : Bool) → (IsTrue is → one ≡ other) → (one ≡ other → IsTrue is) → is ≡ bytes_eq (name_text one) (name_text other)
names_tested one other is to from =
    sym (same_from_decides (bytes_eq (name_text one) (name_text other)) is (bytes_eq-Decides (name_text one) (name_text other))
    ((λ t. ap name_text (to t)), (λ same. from (sym (named_by_name one) ∙ ap named same ∙ named_by_name other))))
