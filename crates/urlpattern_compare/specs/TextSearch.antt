-- The search for a text that meets conditions: it visits places, the sets of states to which texts
-- lead all automata.
use Rattle.std.specs.Prelude.{◌≡◌, ◌≢◌, ℕ, ◌<◌, All, Bool, Contains, List, [], ◌∷◌, ◌++◌, length, IsTrue}
use Rattle.std.specs.{Str.all_scalars}
use Rattle.urlpattern_compare.specs.Conditions.{Meets, are_open, joint_after, joint_moved, states_after}
use Rattle.urlpattern_compare.specs.declared.condition.Condition.{Condition}
use Rattle.urlpattern_compare.specs.declared.search.Found.{Found}
use Rattle.urlpattern_compare.specs.declared.search.Found.TheVariants.{Text, Nothing, TooMany}
use Rattle.urlpattern_compare.specs.declared.text_search.Place.{Place}
use Rattle.urlpattern_syntax.specs.Text.{lacks, line_feed}

-- A text that is compared: characters, none of them a line feed.
pub record IsLine (text : List ℕ) : Type 0 where
  pub scalars : IsTrue (all_scalars text)
  pub plain : IsTrue (lacks line_feed text)

-- No two of the values are alike.
abbrev pub AreUnlike : {X : Type 0} → (Alike : X → X → Type 0) → List X → Type 0
AreUnlike Alike [] = Unit {0}
AreUnlike Alike (x ∷ others) = All (λ other. ¬ Alike x other) others × AreUnlike Alike others

-- More than `most` texts exist that are compared, no two of them alike.
abbrev pub AreMoreLines : (most : ℕ) → (Alike : (text other : List ℕ) → Type 0) → Type 0
AreMoreLines most Alike =
    (texts : List (List ℕ)) × (most < length texts) × All IsLine texts × AreUnlike Alike texts

-- ---- results

-- The two texts lead each automaton to the same states.
abbrev pub LeadAlike : List Condition → (text other : List ℕ) → Type 0
LeadAlike conditions text other =
    All (λ it. states_after it.automaton.now text ≡ states_after it.automaton.now other) conditions

-- More than `most` texts exist no two of which lead each automaton to the same states.
abbrev pub HasManySets : List Condition → (most : ℕ) → Type 0
HasManySets conditions most = AreMoreLines most (LeadAlike conditions)

-- What each result of `find_text` says. Text: the text, which has no line feed, meets the
-- conditions. Nothing: no text without line feed does. TooMany: the automata have too many sets of
-- states.
abbrev pub IsFoundText : List Condition → (most : ℕ) → Found → Type 0
IsFoundText conditions most (Text text) =
    Meets conditions text.items × IsLine text.items
IsFoundText conditions most Nothing = (text : List ℕ) → IsLine text → ¬ Meets conditions text
IsFoundText conditions most TooMany = HasManySets conditions most

-- ---- steps

-- The place has the sets `flags` and the text `text`.
abbrev pub IsPlaceOf : (flags : List Bool) → (text : List ℕ) → Place → Type 0
IsPlaceOf flags text place = (place.flags.items ≡ flags) × (place.text.items ≡ text)

-- The text of the place, which has no line feed, leads to its sets.
pub record IsPlaced (conditions : List Condition) (place : Place) : Type 0 where
  pub flags : place.flags.items ≡ joint_after conditions place.text.items
  pub line : IsLine place.text.items

-- The text of each place leads to its sets, and no two places have the same sets.
pub record ArePlaces (conditions : List Condition) (places : List Place) : Type 0 where
  pub placed : All (IsPlaced conditions) places
  pub apart : AreUnlike (λ (place other : Place). place.flags.items ≡ other.flags.items) places

-- A place with the sets `flags` is among `places`.
abbrev pub IsPlaceSeen : List Place → (flags : List Bool) → Type 0
IsPlaceSeen places flags =
    (place : Place) × Contains places place × (place.flags.items ≡ flags)

-- The place to which `place` leads by the character `c` is among `places`, unless an automaton that
-- has to accept is left without a state.
abbrev pub IsPassedBy : List Condition → (c : ℕ) → (places : List Place) → Place → Type 0
IsPassedBy conditions c places place =
    IsTrue (are_open conditions (joint_moved conditions place.flags.items c)) →
    IsPlaceSeen places (joint_moved conditions place.flags.items c)

-- `IsPassedBy`, by each of `classes` other than a line feed.
abbrev pub IsFollowedIn : List Condition → (classes : List ℕ) → (places : List Place) → Place
    → Type 0
IsFollowedIn conditions classes places place =
    (c : ℕ) → Contains classes c → c ≢ line_feed → IsPassedBy conditions c places place

-- `new` begins with all of `old`.
abbrev pub IsExtendedBy : (old new : List Place) → Type 0
IsExtendedBy old new = (more : List Place) × (new ≡ old ++ more)
