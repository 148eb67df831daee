-- The groups of a pattern, and the words that name them. Texts are bytes.
use Rattle.std.specs.Prelude.{◌≡◌, ◌⊎◌, ◌<◌, ◌==◌, ℕ, Bool, IsTrue, List, [], ◌∷◌, bytes_eq, codes, length, slice_index}
use Rattle.std.specs.{List.filter, Str.chars}
use Rattle.std.specs.List.{after_first, before_first, list_any, position_or_len}
use Rattle.urlpattern_components.specs.declared.eight.ComponentName.{ComponentName}
use Rattle.urlpattern_components.specs.Eight.{components, name_text}
use Rattle.urlpattern_pattern.specs.Patterns.{PatternView}

-- Whether a component of the pattern has a group with this name.
abbrev pub has_group : {E : Type 0} → PatternView E → (name : List ℕ) → ComponentName → Bool
has_group pattern name component = list_any (bytes_eq name) (pattern component).group_name_list

-- The components that have a group with this name.
abbrev pub owners : {E : Type 0} → PatternView E → (name : List ℕ) → List ComponentName
owners pattern name = filter (has_group pattern name) components

-- The component alone has a group with this name.
abbrev pub IsOnlyOwner : {E : Type 0} → PatternView E → (name : List ℕ) → ComponentName → Type 0
IsOnlyOwner pattern name component = owners pattern name ≡ component ∷ []

-- No component alone has a group with this name.
abbrev pub HasNoSingleOwner : {E : Type 0} → PatternView E → (name : List ℕ) → Type 0
HasNoSingleOwner pattern name = (component : ComponentName) → ¬ IsOnlyOwner pattern name component

-- ---- names

-- Whether a byte is a dot.
abbrev pub is_dot : ℕ → Bool
is_dot c = c == slice_index (codes ".") 0

-- The text has a byte for which `is` is true.
abbrev pub HasSuch : (is : ℕ → Bool) → List ℕ → Type 0
HasSuch is text = position_or_len is text < length text

-- The text has no byte for which `is` is true.
abbrev pub LacksSuch : (is : ℕ → Bool) → List ℕ → Type 0
LacksSuch is text = position_or_len is text ≡ length text

-- `word` names the group `name` of the component: it is the name of the component, a dot and the
-- name of the group; or, without a dot, the name of a group that no other component has.
abbrev pub IsGroupNamed : {E : Type 0} → PatternView E → (word : List ℕ) → ComponentName
    → (name : List ℕ) → Type 0
IsGroupNamed pattern word component name =
    (HasSuch is_dot word
    × (before_first is_dot word ≡ name_text component)
    × (name ≡ after_first is_dot word))
    ⊎ (LacksSuch is_dot word × IsOnlyOwner pattern (chars word) component × (name ≡ word))

-- `word` names no group of the pattern.
abbrev pub NamesNoGroup : {E : Type 0} → PatternView E → (word : List ℕ) → Type 0
NamesNoGroup pattern word =
    (component : ComponentName) (name : List ℕ) → ¬ IsGroupNamed pattern word component name

-- `word` names the group `name` of the component, and the pattern has it.
abbrev pub IsOwnGroup : {E : Type 0} → PatternView E → (word : List ℕ) → ComponentName
    → (name : List ℕ) → Type 0
IsOwnGroup pattern word component name =
    IsGroupNamed pattern word component name × IsTrue (has_group pattern (chars name) component)

-- `word` names no group of the pattern: no group at all, or one that the pattern lacks.
abbrev pub LacksGroup : {E : Type 0} → PatternView E → (word : List ℕ) → Type 0
LacksGroup pattern word =
    NamesNoGroup pattern word
    ⊎ ((component : ComponentName) × (name : List ℕ) × IsGroupNamed pattern word component name
    × ¬ IsTrue (has_group pattern (chars name) component))
