-- The arguments of `link` that give texts for the groups of a pattern. Arguments are bytes.
use Rattle.std.specs.Prelude.{◌≡◌, ◌⊎◌, ◌==◌, ℕ, Bool, List, Some, codes, slice_get, slice_index, take}
use Rattle.std.specs.{Borrow.Bor, List.AllZip}
use Rattle.std.specs.List.{after_first, before_first}
use Rattle.urlpat_explain.specs.declared.given_words.ArgumentError.{ArgumentError}
use Rattle.urlpat_explain.specs.declared.given_words.ArgumentError.TheVariants as misgiven
use Rattle.urlpat_matching.specs.Groups.{HasSuch, IsOwnGroup, LacksGroup, LacksSuch}
use Rattle.urlpattern_components.specs.declared.eight.ComponentName.{ComponentName}
use Rattle.urlpattern_pattern.specs.Patterns.{PatternView}

-- Whether a byte is an equals sign.
abbrev pub is_equals_sign : ℕ → Bool
is_equals_sign c = c == slice_index (codes "=") 0

-- A text that is given for a group: the component, the name of the group, and the text.
abbrev pub Given : Type 0
Given = ComponentName × Bor (List ℕ) × Bor (List ℕ)

-- The argument `word` names a group of the pattern before its first equals sign, and gives it the
-- text after the sign.
abbrev pub WordGivesGroup : {E : Type 0} → PatternView E → (word : List ℕ) → Given → Type 0
WordGivesGroup pattern word given =
    HasSuch is_equals_sign word
    × IsOwnGroup pattern (before_first is_equals_sign word) given.0 given.1.now
    × (given.2.now ≡ after_first is_equals_sign word)

-- The argument `word` gives no group a text: it has no equals sign, or what is before the first one
-- names no group of the pattern.
abbrev pub WordGivesNothing : {E : Type 0} → PatternView E → (word : List ℕ) → Type 0
WordGivesNothing pattern word =
    LacksSuch is_equals_sign word ⊎ LacksGroup pattern (before_first is_equals_sign word)

-- The arguments give these groups their texts, an argument for each group, in order.
abbrev pub AreGiven : {E : Type 0} → PatternView E → (words : List (List ℕ)) → List Given → Type 0
AreGiven pattern words groups = AllZip (WordGivesGroup pattern) words groups

-- The argument `word` is the first that gives no group a text.
abbrev pub IsFirstUnread : {E : Type 0} → PatternView E → (words : List (List ℕ))
    → (word : List ℕ) → Type 0
IsFirstUnread pattern words word =
    (index : ℕ) × (groups : List Given) × (slice_get words index ≡ Some word)
    × WordGivesNothing pattern word × AreGiven pattern (take index words) groups

-- The reason why the arguments give no groups: one of them gives no group a text, or memory ran
-- out.
abbrev pub RejectsWords : {E : Type 0} → PatternView E → (words : List (List ℕ)) → ArgumentError
    → Type 0
RejectsWords pattern words (misgiven.Word word) = IsFirstUnread pattern words word.now
RejectsWords pattern words misgiven.OutOfMemory = Unit {0}
