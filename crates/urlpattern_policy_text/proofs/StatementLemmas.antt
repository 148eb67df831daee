-- Lemmas on lists of statements.
use Rattle.std.proofs.Common.{◌≡◌, ◌∙◌, Bool, true, false, List, [], ◌∷◌, Option, None, Some, ap, cond, map, option_map, refl}
use Rattle.std.specs.List.{list_any}
use Rattle.std.specs.Prelude.{ℕ, find, ◌||◌}
use Rattle.urlpattern_policy_text.specs.PolicyTexts.{IsFineSetting}
use Rattle.urlpattern_policy_text.specs.Statements.{Base, Default, DeniesCredentials, PlainSpelling, Says, SettingView, base_in}

module _ {X Y : Type 0} (f : X → Y) (test : Y → Bool) where
  chosen_mapped : (is : Bool) (x : X) (found : Option X) (rest : Option Y) → option_map f found ≡ rest → option_map f (cond is (Some x) found) ≡ cond is (Some (f x)) rest
  chosen_mapped true x found rest same = refl
  chosen_mapped false x found rest same = same

  pub find_mapped : (xs : List X) → option_map f (find (λ x. test (f x)) xs) ≡ find test (map f xs)
  find_mapped [] = refl
  find_mapped (x ∷ xs) = chosen_mapped (test (f x)) x (find (λ y. test (f y)) xs) (find test (map f xs)) (find_mapped xs)

  pub any_mapped : (xs : List X) → list_any (λ x. test (f x)) xs ≡ list_any test (map f xs)
  any_mapped [] = refl
  any_mapped (x ∷ xs) = ap (λ rest. test (f x) || rest) (any_mapped xs)

-- A setting that is no base URL is accepted.
pub fine_unless_base : (setting : SettingView) → base_in (Some (Says setting)) ≡ None → IsFineSetting setting
fine_unless_base (Default effect) none = tt
fine_unless_base (Base text) none = absurd cc
fine_unless_base (PlainSpelling is) none = tt
fine_unless_base (DeniesCredentials is) none = tt

pub base_is : (setting : SettingView) (text : List ℕ) → base_in (Some (Says setting)) ≡ Some text → setting ≡ Base text
base_is (Default effect) text is = absurd cc
base_is (Base own) text is = cc
base_is (PlainSpelling own) text is = absurd cc
base_is (DeniesCredentials own) text is = absurd cc
