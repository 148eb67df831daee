-- What an index lists, and what it finds.
use Rattle.std.specs.Prelude.{◌≡◌, ℕ, ◌+◌, ◌-◌, ◌%◌, ◌≤◌, ◌==◌, ◌++◌, if◌then◌else◌, Bool, true, false, List, [], ◌∷◌, Contains, filter, length, map, min, nat_eq, nat_lt, not, option_map, slice_get, slice_index_or, unwrap_or, Option, None, Some, Vec}
use Rattle.std.specs.HashMap.{HashMap, get}
use Rattle.urlpattern_index.specs.FixedTexts.{AddressTexts, FixedTexts, HasTexts}
use Rattle.urlpattern_index.specs.Keys.{Fits, FormView, Hashes, form_key, forms_for, hashes_of}

-- What an index lists: the keys of the patterns, by number, and the forms of the keys, in groups.
pub record Listing : Type 0 where
  pub keys : List ℕ
  pub forms : List (List FormView)

-- ---- numbers by key

-- The numbers at which a list of keys has `key`, counted from `first` on.
abbrev pub numbers_of : (key first : ℕ) → List ℕ → List ℕ
numbers_of key first [] = []
numbers_of key first (k ∷ keys) =
    if key == k then first ∷ numbers_of key (first + 1) keys else numbers_of key (first + 1) keys

-- The type of a function that returns for each key the numbers of the patterns that have it.
abbrev pub NumbersByKey : Type 0
NumbersByKey = (key : ℕ) → List ℕ

-- The numbers that a map has for each key; empty for a key that it lacks.
abbrev pub numbers_at : {A S : Type 0} → HashMap ℕ (Vec ℕ A) S → NumbersByKey
numbers_at numbers =
    λ key. unwrap_or (option_map (λ listed. listed.items) (get nat_eq numbers key)) []

-- `numbers` has for each key the numbers at which `keys` has it, counted from 0 on.
abbrev pub AreListed : (keys : List ℕ) → NumbersByKey → Type 0
AreListed keys numbers = (key : ℕ) → numbers key ≡ numbers_of key 0 keys

-- A key has numbers only if its remainder modulo 1024 is marked.
abbrev pub AreMarked : (marks : List Bool) → NumbersByKey → Type 0
AreMarked marks numbers =
    (key : ℕ) → slice_index_or marks (key % 1024) true ≡ false → numbers key ≡ []

-- From `old` to `new`, `number` is appended to the numbers of `key`, and each other key keeps its
-- numbers.
abbrev pub GainsNumber : (old new : NumbersByKey) → (key number : ℕ) → Type 0
GainsNumber old new key number =
    (other : ℕ) → new other ≡ old other ++ (if other == key then number ∷ [] else [])

-- From `old` to `new`, each key keeps its numbers.
abbrev pub HaveSameNumbers : (old new : NumbersByKey) → Type 0
HaveSameNumbers old new = (key : ℕ) → new key ≡ old key

-- ---- removing a number

-- `other`, lowered by one if it is larger than `number`.
abbrev pub lowered : (number other : ℕ) → ℕ
lowered number other = if nat_lt number other then other - 1 else other

-- A list without `number`, with each larger number lowered by one.
abbrev pub without : (number : ℕ) → List ℕ → List ℕ
without number list = map (lowered number) (filter (λ other. not (other == number)) list)

-- From `old` to `new`, `number` is removed from the numbers of each key, and each larger number is
-- lowered by one.
abbrev pub LosesNumber : (old new : NumbersByKey) → (number : ℕ) → Type 0
LosesNumber old new number = (key : ℕ) → new key ≡ without number (old key)

-- ---- least numbers

-- The result is the least number of which `P` is true; None if there is no such number.
abbrev pub IsLeast : (ℕ → Type 0) → Option ℕ → Type 0
IsLeast P (Some least) = P least × ((number : ℕ) → P number → least ≤ number)
IsLeast P None = (number : ℕ) → ¬ P number

-- The result is the least number of a list that is at or above `from`; None if there is no such
-- number.
abbrev pub IsFirstFrom : (from : ℕ) → List ℕ → Option ℕ → Type 0
IsFirstFrom from list = IsLeast (λ number. (from ≤ number) × Contains list number)

-- The lesser of two optional numbers, where None counts as larger than any number.
abbrev pub lesser : Option ℕ → Option ℕ → Option ℕ
lesser (Some a) (Some b) = Some (min a b)
lesser (Some a) None = Some a
lesser None b = b

-- ---- what is found

-- An address with these hashes fits one of the forms, and has in that form the key of the pattern
-- with this number.
abbrev pub FindsBy : (forms : List FormView) → (keys : List ℕ) → Hashes → (number : ℕ) → Type 0
FindsBy forms keys hashes number =
    (form : FormView) × Contains forms form
    × Fits form hashes
    × (slice_get keys number ≡ Some (form_key form hashes))

-- The pattern with this number is found by one of the forms, as `FindsBy` says, and the number is
-- at or above `from`.
abbrev pub FindsByFrom : (forms : List FormView) → (keys : List ℕ) → Hashes
    → (from number : ℕ) → Type 0
FindsByFrom forms keys hashes from number = (from ≤ number) × FindsBy forms keys hashes number

-- An address with these hashes fits the form, and has in the form the key of the pattern with this
-- number, which is at or above `from`.
abbrev pub FindsFrom : FormView → (keys : List ℕ) → Hashes → (from number : ℕ) → Type 0
FindsFrom form keys hashes from number =
    (from ≤ number) × Fits form hashes × (slice_get keys number ≡ Some (form_key form hashes))

-- The pattern with this number is found by one of the forms that a path with the address's number
-- of segments can fit, as `FindsBy` says.
abbrev pub Finds : Listing → Hashes → (number : ℕ) → Type 0
Finds listing hashes number =
    FindsBy (forms_for listing.forms (length hashes.segments)) listing.keys hashes number

-- From `old` to `new`, a pattern with the fixed texts `fixed` is appended, with the next number. An
-- address that has the fixed texts finds it, and each pattern that was found before is still found.
pub record AppendsPattern (old new : Listing) (fixed : FixedTexts) : Type 0 where
  pub one_more : length new.keys ≡ length old.keys + 1
  pub others : (hashes : Hashes) (number : ℕ) → Finds old hashes number → Finds new hashes number
  pub found : (address : AddressTexts) → HasTexts fixed address
      → Finds new (hashes_of address) (length old.keys)
