-- Eight texts that meet conditions and, of each of several lists of conditions, do not meet one.
use Rattle.std.specs.Prelude.{◌≡◌, ◌⊎◌, ◌<◌, ℕ, All, Contains, IsTrue, List, [], ◌∷◌, ◌++◌, length, MatchOption, not, Option, Result, Ok, Err, Vec}
use Rattle.std.specs.List.{HoldsAt}
use Rattle.std.specs.declared.alloc.Global.{Global}
use Rattle.urlpattern_compare.specs.Conditions.{is_met}
use Rattle.urlpattern_compare.specs.TextSearch.{AreUnlike, HasManySets, IsLine}
use Rattle.urlpattern_compare.specs.declared.candidates.Candidate.{Candidate}
use Rattle.urlpattern_compare.specs.declared.candidates.FoundTexts.{FoundTexts}
use Rattle.urlpattern_compare.specs.declared.candidates.FoundTexts.TheVariants as founds
use Rattle.urlpattern_compare.specs.declared.candidates.Limits.{Limits}
use Rattle.urlpattern_compare.specs.declared.candidates.NoTexts.{NoTexts}
use Rattle.urlpattern_compare.specs.declared.candidates.NoTexts.TheVariants as lacking
use Rattle.urlpattern_compare.specs.declared.condition.Condition.{Condition}
use Rattle.urlpattern_compare.specs.declared.search.Found.{Found}
use Rattle.urlpattern_compare.specs.declared.search.Found.TheVariants.{Text, Nothing, TooMany}
use Rattle.urlpattern_components.specs.Eight.{at}
use Rattle.urlpattern_components.specs.declared.eight.ComponentName.{ComponentName}
use Rattle.urlpattern_components.specs.declared.eight.Eight.{Eight}

-- ---- eight texts

-- A text for each component.
abbrev pub TextAt : Type 0
TextAt = ComponentName → List ℕ

-- The texts of eight lists of characters.
abbrev pub text_at : Eight (Vec ℕ Global) → TextAt
text_at texts = λ name. (at texts name).items

-- Each text has characters, and none of them is a line feed.
abbrev pub AreLines : TextAt → Type 0
AreLines texts = (name : ComponentName) → IsLine (texts name)

-- `new` is `text` if `name` is the component, and otherwise the text that `old` has for `name`.
abbrev pub IsTextWith : (old : TextAt) → (component : ComponentName) → (text : List ℕ)
    → (name : ComponentName) → (new : List ℕ) → Type 0
IsTextWith old component text name new =
    (name ≡ component → new ≡ text) × (¬ (name ≡ component) → new ≡ old name)

-- `new` has the text `text` for the component, and the text of `old` for each other.
abbrev pub IsWithText : (old : TextAt) → (component : ComponentName) → (text : List ℕ)
    → (new : TextAt) → Type 0
IsWithText old component text new =
    (name : ComponentName) → IsTextWith old component text name (new name)

-- ---- conditions

-- The text meets each of the conditions that are on the component.
abbrev pub MeetsAt : List Condition → (component : ComponentName) → (text : List ℕ) → Type 0
MeetsAt conditions component text =
    All (λ it. it.component ≡ component → IsTrue (is_met it text)) conditions

-- The eight texts meet each of the conditions.
abbrev pub MeetsEach : List Condition → TextAt → Type 0
MeetsEach conditions texts = All (λ it. IsTrue (is_met it (texts it.component))) conditions

-- The condition that is met where this one is not.
abbrev pub negated : Condition → Condition
negated it = record it { is_accepted = not it.is_accepted }

-- A condition of the list is on the same component and automaton.
abbrev pub IsAmong : List Condition → Condition → Type 0
IsAmong conditions it =
    (one : Condition) × Contains conditions one
    × (one.component ≡ it.component)
    × (one.automaton.now ≡ it.automaton.now)

-- The index of the first of the lists of conditions that the eight texts meet. None: they meet none
-- of the lists.
abbrev pub IsFirstMet : List (Vec Condition Global) → TextAt → Option ℕ → Type 0
IsFirstMet lists texts found =
    MatchOption found (All (λ them. ¬ MeetsEach them.items texts) lists) (λ index.
    (index < length lists) × HoldsAt (λ them. MeetsEach them.items texts) lists index)

-- ---- one component

-- The automata of conditions on the component have too many sets of states: more than `most` texts
-- exist no two of which lead each automaton to the same states.
abbrev pub HasManySetsAt : List Condition → (component : ComponentName) → (most : ℕ) → Type 0
HasManySetsAt conditions component most =
    (own : List Condition) × All (λ it. (it.component ≡ component) × IsAmong conditions it) own
    × HasManySets own most

-- What each result of `find_at` says. Text: the text, which has no line feed, meets the conditions
-- on the component. Nothing: no text without line feed does. TooMany: the automata have too many
-- sets of states.
abbrev pub IsFoundAt : List Condition → (component : ComponentName) → (most : ℕ) → Found → Type 0
IsFoundAt conditions component most (Text text) =
    MeetsAt conditions component text.items × IsLine text.items
IsFoundAt conditions component most Nothing =
    (text : List ℕ) → IsLine text → ¬ MeetsAt conditions component text
IsFoundAt conditions component most TooMany = HasManySetsAt conditions component most

-- What the result of `first_text` says. A text: it has no line feed and meets the conditions on the
-- component. A component: its automata have too many sets of states. Nothing: no text meets them.
abbrev pub IsFirstText : List Condition → (most : ℕ) → ComponentName
    → Result (Result (Vec ℕ Global) ComponentName) NoTexts → Type 0
IsFirstText conditions most component (Ok (Ok text)) =
    MeetsAt conditions component text.items × IsLine text.items
IsFirstText conditions most component (Ok (Err name)) = HasManySetsAt conditions name most
IsFirstText conditions most component (Err lacking.Nothing) =
    (text : List ℕ) → IsLine text → ¬ MeetsAt conditions component text
IsFirstText conditions most component (Err lacking.OutOfMemory) = Unit {0}

-- What the result of `first_texts` says. Texts: they have no line feed and meet the conditions. A
-- component: its automata have too many sets of states. Nothing: no texts meet the conditions.
abbrev pub AreFirstTexts : List Condition → (most : ℕ)
    → Result (Result (Eight (Vec ℕ Global)) ComponentName) NoTexts → Type 0
AreFirstTexts conditions most (Ok (Ok texts)) =
    AreLines (text_at texts) × MeetsEach conditions (text_at texts)
AreFirstTexts conditions most (Ok (Err name)) = HasManySetsAt conditions name most
AreFirstTexts conditions most (Err lacking.Nothing) =
    (texts : TextAt) → AreLines texts → ¬ MeetsEach conditions texts
AreFirstTexts conditions most (Err lacking.OutOfMemory) = Unit {0}

-- ---- candidates

-- Each of the conditions is met by both or neither of the eight texts.
abbrev pub AlikeBy : List Condition → (texts others : TextAt) → Type 0
AlikeBy conditions texts others =
    All (λ it. is_met it (texts it.component) ≡ is_met it (others it.component)) conditions

-- Eight texts of the one candidate and eight of the other meet the same of `conditions`.
abbrev pub ShareBy : List Condition → (it other : Candidate) → Type 0
ShareBy conditions it other =
    (texts others : TextAt)
    × MeetsEach it.conditions.items texts
    × MeetsEach other.conditions.items others
    × AlikeBy conditions texts others

-- The candidate's texts, which have no line feed, meet its conditions. What meets these meets
-- `conditions` too, and not all of `refused`; they are on automata of both.
pub record IsCandidateOf (conditions refused : List Condition) (it : Candidate) : Type 0 where
  pub lines : AreLines (text_at it.texts)
  pub met : MeetsEach it.conditions.items (text_at it.texts)
  pub within : (texts : TextAt) → MeetsEach it.conditions.items texts → MeetsEach conditions texts
  pub failing : (texts : TextAt) → MeetsEach it.conditions.items texts → ¬ MeetsEach refused texts
  pub among : All (IsAmong (conditions ++ refused)) it.conditions.items

-- `new` has further candidates after those of `old`, which divide what meets `conditions`, and not
-- all of `refused`: no two have texts that meet the same of `refused`.
abbrev pub AreCandidates : (conditions refused : List Condition) → (old new : List Candidate)
    → Type 0
AreCandidates conditions refused old new =
    (more : List Candidate) × (new ≡ old ++ more)
    × All (IsCandidateOf conditions refused) more
    × AreUnlike (ShareBy refused) more

-- The eight texts meet the conditions of one of the candidates.
abbrev pub IsInside : List Candidate → TextAt → Type 0
IsInside candidates texts =
    (it : Candidate) × Contains candidates it × MeetsEach it.conditions.items texts

-- Eight texts that meet `conditions`, and not all of `refused`, are in one of the candidates,
-- unless a search was given up.
abbrev pub IsSplit : (conditions refused : List Condition) → (IsGivenUp : Type 0)
    → List Candidate → Type 0
IsSplit conditions refused IsGivenUp candidates =
    (texts : TextAt) → AreLines texts → MeetsEach conditions texts → ¬ MeetsEach refused texts
    → IsGivenUp ⊎ IsInside candidates texts

-- ---- results

-- The eight texts, which have no line feed, meet the conditions `first`, and of each list of
-- `refused` do not meet one.
pub record IsAnswer (first : List Condition) (refused : List (Vec Condition Global))
    (texts : TextAt) : Type 0 where
  pub met : MeetsEach first texts
  pub unmet : All (λ them. ¬ MeetsEach them.items texts) refused

-- All conditions.
abbrev pub all_conditions : (first : List Condition) → (refused : List (Vec Condition Global))
    → List Condition
all_conditions first [] = first
all_conditions first (them ∷ others) = all_conditions first others ++ them.items

-- Each condition of `refused` is met by both or neither of the eight texts.
abbrev pub MeetAlike : (refused : List (Vec Condition Global)) → (texts others : TextAt) → Type 0
MeetAlike refused texts others =
    All (λ them. AlikeBy them.items texts others) refused

-- More than `most` times eight texts exist, without line feeds, that meet the conditions `first`,
-- and no two of which meet the same conditions of `refused`.
abbrev pub HasManyTexts : (first : List Condition) → (refused : List (Vec Condition Global))
    → (most : ℕ) → Type 0
HasManyTexts first refused most =
    (found : List TextAt) × (most < length found)
    × All AreLines found
    × All (MeetsEach first) found
    × AreUnlike (MeetAlike refused) found

-- What each result of `find_texts` says. Texts: the texts have no line feed, meet `first`, and do
-- not meet some condition of each list of `refused`. Nothing: no eight texts without line feed do.
-- TooManySets: the automata of the component have too many sets of states. TooManyTexts: too many
-- eight texts would have to be tried.
abbrev pub IsFoundTexts : (first : List Condition) → (refused : List (Vec Condition Global))
    → Limits → FoundTexts → Type 0
IsFoundTexts first refused limits (founds.Texts texts) =
    AreLines (text_at texts) × IsAnswer first refused (text_at texts)
IsFoundTexts first refused limits founds.Nothing =
    (texts : TextAt) → AreLines texts → ¬ IsAnswer first refused texts
IsFoundTexts first refused limits (founds.TooManySets component) =
    HasManySetsAt (all_conditions first refused) component limits.sets
IsFoundTexts first refused limits founds.TooManyTexts =
    HasManyTexts first refused limits.texts
