-- Whether eight texts exist that each of some patterns matches, and none of others.
use Rattle.std.specs.Prelude.{◌≡◌, ◌↔◌, ◌⊎◌, ◌++◌, ◌<◌, ℕ, All, Bool, Contains, IsSome, IsTrue, List, MatchOption, Option, String, Vec, length, map, slice_get, Some}
use Rattle.std.specs.declared.alloc.Global.{Global}
use Rattle.std.specs.Str.{all_scalars}
use Rattle.urlpattern_compare.specs.Candidates.{AreLines, MeetsEach, TextAt, text_at}
use Rattle.urlpattern_compare.specs.Comparing.{AreSame, IsKnown, IsUnknownBy, MeansIn}
use Rattle.urlpattern_compare.specs.Conditions.{accepts, states_after}
use Rattle.urlpattern_compare.specs.Making.{MayHaveManyStates}
use Rattle.urlpattern_compare.specs.TextSearch.{AreMoreLines, AreUnlike, IsLine}
use Rattle.urlpattern_compare.specs.WorkBounds.{component_size}
use Rattle.urlpattern_compare.specs.declared.candidates.FoundTexts.{FoundTexts}
use Rattle.urlpattern_compare.specs.declared.candidates.FoundTexts.TheVariants as founds
use Rattle.urlpattern_compare.specs.declared.candidates.Limits.{Limits}
use Rattle.urlpattern_compare.specs.declared.common_texts.Common.{Common}
use Rattle.urlpattern_compare.specs.declared.common_texts.Common.TheVariants as answers
use Rattle.urlpattern_compare.specs.declared.common_texts.Doubt.{Doubt}
use Rattle.urlpattern_compare.specs.declared.common_texts.Doubt.TheVariants as doubts
use Rattle.urlpattern_compare.specs.declared.common_texts.Lack.{Lack}
use Rattle.urlpattern_compare.specs.declared.common_texts.PatternAutomata.{PatternAutomata}
use Rattle.urlpattern_compare.specs.declared.condition.Condition.{Condition}
use Rattle.urlpattern_compare.specs.declared.coverage.Reason.{Reason}
use Rattle.urlpattern_compare.specs.declared.coverage.Reason.TheVariants as reasons
use Rattle.urlpattern_compare.specs.declared.parts_automaton.PartsAutomaton.{PartsAutomaton}
use Rattle.urlpattern_compare.specs.declared.pattern_parts.PatternParts.{PatternParts}
use Rattle.urlpattern_components.specs.Eight.{at}
use Rattle.urlpattern_components.specs.declared.eight.ComponentName.{ComponentName}
use Rattle.urlpattern_components.specs.declared.eight.Eight.{Eight}
use Rattle.urlpattern_meaning.specs.PartMeaning.{AreGenerated}
use Rattle.urlpattern_syntax.specs.Options.{options_view}
use Rattle.urlpattern_syntax.specs.Parts.{parts_view}
use Rattle.urlpattern_syntax.specs.Text.{text_of}
use Rattle.urlpattern_syntax.specs.declared.parts.ComponentParts.{ComponentParts}

-- ---- the question

-- A pattern, and which texts each of its components is said to match.
pub record PatternMeaning : Type 0 where
  pub parts : PatternParts
  pub means : ComponentName → (text : List ℕ) → Bool

-- A component whose parts tell which texts it matches is said to match those that they mean.
abbrev pub MeansByParts : PatternMeaning → Type 0
MeansByParts it =
    (name : ComponentName) → IsKnown (at it.parts.components name)
    → (text : List ℕ) → IsLine text
    → IsTrue (it.means name text) ↔ MeansIn (at it.parts.components name) text

-- Components that are equal but for the names of groups are said to match the same texts.
abbrev pub MeanAlike : (it other : PatternMeaning) → Type 0
MeanAlike it other =
    (name : ComponentName)
    → AreSame (at it.parts.components name) (at other.parts.components name)
    → (text : List ℕ) → IsLine text → it.means name text ≡ other.means name text

-- `all` and `none` may say which texts the components of the patterns `all_of` and `none_of` match:
-- nothing that is known of a component speaks against it.
pub record AreMeanings (all_of none_of : List PatternParts) (all none : List PatternMeaning) :
    Type 0 where
  pub all_parts : map (λ it. it.parts) all ≡ all_of
  pub none_parts : map (λ it. it.parts) none ≡ none_of
  pub known : All MeansByParts (all ++ none)
  pub same : All (λ it. All (MeanAlike it) (all ++ none)) (all ++ none)

-- Each component of the pattern matches its text.
abbrev pub MeansEach : PatternMeaning → TextAt → Type 0
MeansEach it texts = (name : ComponentName) → IsTrue (it.means name (texts name))

-- Each pattern of `all` matches the eight texts, and no pattern of `none` does.
pub record AreCommon (all none : List PatternMeaning) (texts : TextAt) : Type 0 where
  pub lines : AreLines texts
  pub meant : All (λ it. MeansEach it texts) all
  pub unmeant : All (λ it. ¬ MeansEach it texts) none

-- ---- what is too much

-- The texts lead the automaton of the component to the same states, if it has one.
abbrev pub LeadsAlike : (text other : List ℕ) → Option PartsAutomaton → Type 0
LeadsAlike text other automaton =
    MatchOption automaton (Unit {0}) (λ it. states_after it text ≡ states_after it other)

-- A component of the patterns needs more than `most` sets of states: so many texts exist no two of
-- which lead each automaton to the same states.
abbrev pub NeedsManySets : List (Eight (Option PartsAutomaton)) → ComponentName → (most : ℕ)
    → Type 0
NeedsManySets patterns name most =
    AreMoreLines most
    (λ text other. All (λ automata. LeadsAlike text other (at automata name)) patterns)

-- The automaton of the component accepts both texts or neither, if there is one.
abbrev pub AcceptsAlike : (text other : List ℕ) → Option PartsAutomaton → Type 0
AcceptsAlike text other automaton =
    MatchOption automaton (Unit {0}) (λ it. accepts it text ≡ accepts it other)

-- The components of the patterns accept the same of both eight texts.
abbrev pub TakeAlike : List (Eight (Option PartsAutomaton)) → (texts others : TextAt) → Type 0
TakeAlike patterns texts others =
    All
    (λ automata. (name : ComponentName)
    → AcceptsAlike (texts name) (others name) (at automata name)) patterns

-- The automaton, if there is one, accepts the text.
abbrev pub Takes : Option PartsAutomaton → (text : List ℕ) → Type 0
Takes automaton text = MatchOption automaton (Unit {0}) (λ it. IsTrue (accepts it text))

-- Each component of the pattern takes its text.
abbrev pub TakesAll : PatternAutomata → TextAt → Type 0
TakesAll pattern texts = (name : ComponentName) → Takes (at pattern.automata name) (texts name)

-- More than `most` times eight texts exist, without line feeds, that each pattern of `all_of`
-- takes, and no two of which the components of `none_of` take alike.
abbrev pub NeedsManyTexts : (all_of none_of : List PatternAutomata) → (most : ℕ) → Type 0
NeedsManyTexts all_of none_of most =
    (found : List TextAt) × (most < length found)
    × All AreLines found
    × All (λ texts. All (λ pattern. TakesAll pattern texts) all_of) found
    × AreUnlike (TakeAlike (map (λ it. it.automata) none_of)) found

-- ---- the answer

-- The automaton accepts the texts of characters that the component matches. If no part is custom,
-- it has as many states as the size of the component.
pub record IsAutomatonOf (component : ComponentParts) (automaton : PartsAutomaton) : Type 0 where
  pub known : IsKnown component
  pub means : (text : List ℕ) → IsTrue (all_scalars text)
      → IsTrue (accepts automaton text) ↔ MeansIn component text
  pub size : AreGenerated (parts_view component.parts.items)
      → automaton.states ≡ component_size component

-- `reason` is why a component has no automaton: its parts do not tell which texts it matches, or
-- they tell, and the automaton may need too many states.
abbrev pub LacksBy : ComponentParts → Reason → Type 0
LacksBy component reasons.TooMany =
    IsKnown component
    × MayHaveManyStates (options_view component.options) (parts_view component.parts.items)
LacksBy component reason = IsUnknownBy component reason

-- The automaton of the component, or None if it has none.
abbrev pub IsAutomatonOrLacks : ComponentParts → Option PartsAutomaton → Type 0
IsAutomatonOrLacks component found =
    MatchOption found ((reason : Reason) × LacksBy component reason) (IsAutomatonOf component)

-- The automata are those of the parts.
abbrev pub AreAutomata : PatternAutomata → Type 0
AreAutomata it =
    (name : ComponentName)
    → IsAutomatonOrLacks (at it.parts.components name) (at it.automata name)

-- The parts of each pattern.
abbrev pub parts_of : List PatternAutomata → List PatternParts
parts_of patterns = map (λ it. it.parts) patterns

-- The component of the pattern has no automaton, for the reason.
abbrev pub Lacks : PatternAutomata → ComponentName → Reason → Type 0
Lacks pattern name reason =
    (¬ IsSome (at pattern.automata name)) × LacksBy (at pattern.parts.components name) reason

-- The component of the pattern at the index has no automaton, for the reason.
abbrev pub IsLack : List PatternAutomata → Lack → Type 0
IsLack patterns lack =
    (pattern : PatternAutomata) × (slice_get patterns lack.pattern ≡ Some pattern)
    × Lacks pattern lack.component lack.reason

-- The component of the pattern, whose index is `index`, has no automaton, for the reason.
abbrev pub IsLackOf : PatternAutomata → (index : ℕ) → Lack → Type 0
IsLackOf pattern index lack =
    (lack.pattern ≡ index) × Lacks pattern lack.component lack.reason

-- `doubt` is a reason why it is not known whether such texts exist: a component has no automaton,
-- or the search would be too long.
abbrev pub IsDoubt : (all_of none_of : List PatternAutomata) → Limits → Doubt → Type 0
IsDoubt all_of none_of limits (doubts.AllOf lack) = IsLack all_of lack
IsDoubt all_of none_of limits (doubts.NoneOf lack) = IsLack none_of lack
IsDoubt all_of none_of limits (doubts.TooManySets name) =
    NeedsManySets (map (λ it. it.automata) (all_of ++ none_of)) name limits.sets
IsDoubt all_of none_of limits doubts.TooManyTexts =
    NeedsManyTexts all_of none_of limits.texts

-- The texts of eight strings.
abbrev pub string_at : Eight (String Global) → TextAt
string_at texts = λ name. text_of (at texts name)

-- What each result of `find_common` says. Texts: whatever unknown components match, each pattern of
-- `all_of` matches the texts, and no pattern of `none_of` does. Nothing: whatever they match, there
-- are no such texts. Unknown: the reason why it is not known.
abbrev pub IsCommonAnswer : (all_of none_of : List PatternAutomata) → Limits → Common → Type 0
IsCommonAnswer all_of none_of limits (answers.Texts texts) =
    (all none : List PatternMeaning) → AreMeanings (parts_of all_of) (parts_of none_of) all none
    → AreCommon all none (string_at texts)
IsCommonAnswer all_of none_of limits answers.Nothing =
    (all none : List PatternMeaning) → AreMeanings (parts_of all_of) (parts_of none_of) all none
    → (texts : TextAt) → ¬ AreCommon all none texts
IsCommonAnswer all_of none_of limits (answers.Unknown doubt) =
    IsDoubt all_of none_of limits doubt

-- Some eight texts are matched by each pattern of `all_of`, and by no pattern of `none_of`, if
-- unknown components match what some meanings say.
abbrev pub MayBeCommon : (all_of none_of : List PatternParts) → Type 0
MayBeCommon all_of none_of =
    (all none : List PatternMeaning) × AreMeanings all_of none_of all none
    × ((texts : TextAt) × AreCommon all none texts)

-- No eight texts are matched by each pattern of `all_of`, and by no pattern of `none_of`, if
-- unknown components match what some meanings say.
abbrev pub MayBeNothing : (all_of none_of : List PatternParts) → Type 0
MayBeNothing all_of none_of =
    (all none : List PatternMeaning) × AreMeanings all_of none_of all none
    × ((texts : TextAt) → ¬ AreCommon all none texts)

-- A component of one of the patterns has no automaton, since it may need too many states.
abbrev pub SomeMayHaveManyStates : List PatternAutomata → Type 0
SomeMayHaveManyStates all =
    (lack : Lack) × IsLack all lack × (lack.reason ≡ reasons.TooMany)

-- Whether common texts exist depends on what unknown components match, or a component may need too
-- many states.
abbrev pub Depends : (all_of none_of : List PatternAutomata) → Type 0
Depends all_of none_of =
    (MayBeCommon (parts_of all_of) (parts_of none_of)
    × MayBeNothing (parts_of all_of) (parts_of none_of))
    ⊎ SomeMayHaveManyStates (all_of ++ none_of)

-- A component is the doubt only where the question depends on what unknown components match.
abbrev pub DependsIfUnknown : (all_of none_of : List PatternAutomata) → Common → Type 0
DependsIfUnknown all_of none_of (answers.Unknown (doubts.AllOf lack)) = Depends all_of none_of
DependsIfUnknown all_of none_of (answers.Unknown (doubts.NoneOf lack)) = Depends all_of none_of
DependsIfUnknown all_of none_of answer = Unit {0}

-- ---- steps

-- A pattern of `all_of` has the same component as the pattern, but for names.
abbrev pub IsSameIn : (all_of : List PatternAutomata) → PatternAutomata → ComponentName → Type 0
IsSameIn all_of pattern name =
    (one : PatternAutomata) × Contains all_of one
    × AreSame (at one.parts.components name) (at pattern.parts.components name)

-- The component takes its text, or is the same in a pattern of `all_of`.
abbrev pub TakesIn : (all_of : List PatternAutomata) → PatternAutomata → TextAt → ComponentName
    → Type 0
TakesIn all_of pattern texts name =
    IsSameIn all_of pattern name ⊎ Takes (at pattern.automata name) (texts name)

-- Each component of the pattern takes its text, or is the same in a pattern of `all_of`.
abbrev pub TakesEach : (all_of : List PatternAutomata) → PatternAutomata → TextAt → Type 0
TakesEach all_of pattern texts = (name : ComponentName) → TakesIn all_of pattern texts name

-- The component has an automaton, or is the same in a pattern of `all_of`.
abbrev pub IsSureIn : (all_of : List PatternAutomata) → PatternAutomata → ComponentName → Type 0
IsSureIn all_of pattern name = IsSameIn all_of pattern name ⊎ IsSome (at pattern.automata name)

-- Each component of the pattern has an automaton, or is the same in a pattern of `all_of`.
abbrev pub IsSure : (all_of : List PatternAutomata) → PatternAutomata → Type 0
IsSure all_of pattern = (name : ComponentName) → IsSureIn all_of pattern name

-- The condition is that the automaton of the pattern accepts.
abbrev pub IsConditionOf : PatternAutomata → Condition → Type 0
IsConditionOf pattern it = at pattern.automata it.component ≡ Some it.automaton.now

-- `new` has further conditions after those of `old`: on automata of the pattern, and met by the
-- eight texts for which `Takes` holds.
abbrev pub AreAdded : PatternAutomata → (Takes : TextAt → Type 0) → (old new : List Condition)
    → Type 0
AreAdded pattern Takes old new =
    (more : List Condition) × (new ≡ old ++ more)
    × All (IsConditionOf pattern) more
    × ((texts : TextAt) → MeetsEach more texts ↔ Takes texts)

-- The conditions are those of the pattern.
pub record AreConditionsOf (all_of : List PatternAutomata) (pattern : PatternAutomata)
    (conditions : List Condition) : Type 0 where
  pub on : All (IsConditionOf pattern) conditions
  pub meant : (texts : TextAt) → MeetsEach conditions texts ↔ TakesEach all_of pattern texts

-- No texts that each pattern of `all_of` takes are taken by the pattern, too.
abbrev pub TakesNone : (all_of : List PatternAutomata) → PatternAutomata → Type 0
TakesNone all_of pattern =
    (texts : TextAt) → AreLines texts → All (λ it. TakesAll it texts) all_of
    → ¬ TakesEach all_of pattern texts

-- What the lists of conditions `lists` say of the patterns `none_of`: each list is of a pattern,
-- which is sure if `is_sure`; and each pattern that is sure, or each if `is_sure` is false, has a
-- list, or takes no texts that each pattern of `all_of` takes.
pub record AreLists (all_of none_of : List PatternAutomata) (is_sure : Bool)
    (lists : List (Vec Condition Global)) : Type 0 where
  pub of_patterns : All
      (λ list. (pattern : PatternAutomata) × Contains none_of pattern
      × AreConditionsOf all_of pattern list.items
      × (IsTrue is_sure → IsSure all_of pattern)) lists
  pub of_lists : All
      (λ pattern. (IsTrue is_sure → IsSure all_of pattern)
      → TakesNone all_of pattern
      ⊎ ((list : Vec Condition Global) × Contains lists list
      × AreConditionsOf all_of pattern list.items)) none_of

-- The eight texts are taken by each pattern of `all_of`, and by none of `none_of`; with `is_sure`
-- patterns of `none_of` that are not sure do not count.
pub record AreTaken (all_of none_of : List PatternAutomata) (is_sure : Bool) (texts : TextAt) :
    Type 0 where
  pub taken : All (λ pattern. TakesAll pattern texts) all_of
  pub refused : All
      (λ pattern. (IsTrue is_sure → IsSure all_of pattern) → ¬ TakesEach all_of pattern texts)
      none_of

-- Some eight texts are taken by each pattern of `all_of`, and by none of `none_of`; with `is_sure`
-- patterns of `none_of` that are not sure do not count.
abbrev pub SomeAreTaken : (all_of none_of : List PatternAutomata) → (is_sure : Bool) → Type 0
SomeAreTaken all_of none_of is_sure =
    (texts : TextAt) × AreLines texts × AreTaken all_of none_of is_sure texts

-- What each result of `find_taken` says. Texts: the texts are taken by each pattern of `all_of`,
-- and by none of `none_of` that counts. Nothing: there are no such texts. TooManySets,
-- TooManyTexts: the question needs more than the limits allow.
abbrev pub IsFoundTaken : (all_of none_of : List PatternAutomata) → (is_sure : Bool) → Limits
    → FoundTexts → Type 0
IsFoundTaken all_of none_of is_sure limits (founds.Texts texts) =
    AreLines (text_at texts) × AreTaken all_of none_of is_sure (text_at texts)
IsFoundTaken all_of none_of is_sure limits founds.Nothing =
    (texts : TextAt) → AreLines texts → ¬ AreTaken all_of none_of is_sure texts
IsFoundTaken all_of none_of is_sure limits (founds.TooManySets name) =
    NeedsManySets (map (λ it. it.automata) (all_of ++ none_of)) name limits.sets
IsFoundTaken all_of none_of is_sure limits founds.TooManyTexts =
    NeedsManyTexts all_of none_of limits.texts

-- Each component of the pattern has an automaton.
abbrev pub HasAutomata : PatternAutomata → Type 0
HasAutomata pattern = (name : ComponentName) → IsSome (at pattern.automata name)
