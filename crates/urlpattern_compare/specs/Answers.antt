-- The results of comparing which texts two lists of parts match. Parts *mean* a text if they can
-- match it, one after the other.
use Rattle.std.specs.Prelude.{◌≡◌, ◌↔◌, ℕ, Bool, true, false, not, ◌⊎◌, IfOk, IfSome, List, IsTrue, Option, Result}
use Rattle.std.specs.Str.{all_scalars}
use Rattle.urlpattern_compare.specs.Automata.{AcceptsText, IsWhether}
use Rattle.urlpattern_compare.specs.Making.{MayHaveManyStates, IsMadeOf}
use Rattle.urlpattern_compare.specs.MeantTexts.{MeansText}
use Rattle.urlpattern_compare.specs.Conditions.{accepts, states_after}
use Rattle.urlpattern_compare.specs.Searching.{IsMostSets}
use Rattle.urlpattern_compare.specs.TextSearch.{AreMoreLines, IsLine}
use Rattle.urlpattern_compare.specs.declared.parts_automaton.PartsAutomaton.{PartsAutomaton}
use Rattle.urlpattern_compare.specs.declared.coverage.Answer.{Answer}
use Rattle.urlpattern_compare.specs.declared.coverage.Answer.TheVariants as answers
use Rattle.urlpattern_compare.specs.declared.coverage.Covering.{Covering}
use Rattle.urlpattern_compare.specs.declared.coverage.Covering.TheVariants as coverings
use Rattle.urlpattern_compare.specs.declared.coverage.Overlap.{Overlap}
use Rattle.urlpattern_compare.specs.declared.coverage.Overlap.TheVariants as overlaps
use Rattle.urlpattern_compare.specs.declared.coverage.Reason.{Reason}
use Rattle.urlpattern_compare.specs.declared.coverage.Reason.TheVariants as reasons
use Rattle.urlpattern_compare.specs.declared.search.Found.{Found}
use Rattle.urlpattern_compare.specs.declared.search.Found.TheVariants as founds
use Rattle.urlpattern_expressions.specs.SimpleExpressions.{AreSimple}
use Rattle.urlpattern_meaning.specs.PartMeaning.{AreGenerated}
use Rattle.urlpattern_syntax.specs.{Options.OptionsView, Options.options_view, Parts.PartView, Parts.parts_view}
use Rattle.urlpattern_syntax.specs.declared.parser.Options.{Options}
use Rattle.urlpattern_syntax.specs.declared.parser.Part.{Part}

-- The texts lead each of the two automata to the same states.
abbrev pub LeadBothAlike : (one other : PartsAutomaton) → (text another : List ℕ) → Type 0
LeadBothAlike one other text another =
    (states_after one text ≡ states_after one another)
    × (states_after other text ≡ states_after other another)

-- Two automata have more sets of states than a search reaches before it is given up: so many texts
-- exist no two of which lead each of the two to the same states.
abbrev pub HaveManySets : (one other : PartsAutomaton) → Type 0
HaveManySets one other =
    (most : ℕ) × IsMostSets one.states other.states most
    × AreMoreLines most (LeadBothAlike one other)

-- The search for a text that the first list of parts matches, and that the second matches or does
-- not, reaches too many sets of states.
abbrev pub IsSearchLong : OptionsView → List PartView → OptionsView → List PartView → Type 0
IsSearchLong options parts other_options others =
    (one other : PartsAutomaton) × IsMadeOf options parts one × IsMadeOf other_options others other
    × HaveManySets one other

-- The work of the search for a text that the first list of parts matches, and that the second
-- matches or does not, may be too much: one of the two may need too many states, or the search
-- reaches too many sets of states.
abbrev pub IsTooMuch : OptionsView → List PartView → OptionsView → List PartView → Type 0
IsTooMuch options parts other_options others =
    (MayHaveManyStates options parts ⊎ MayHaveManyStates other_options others)
    ⊎ IsSearchLong options parts other_options others

-- Case is kept, or no part is custom.
abbrev pub IsByCase : OptionsView → List PartView → Type 0
IsByCase options parts = (options.ignore_case ≡ false) ⊎ AreGenerated parts

-- Parts tell which texts they match: custom expressions are simple, and case is kept if there is
-- one.
pub record AreKnown (options : OptionsView) (parts : List PartView) : Type 0 where
  pub simple : AreSimple parts
  pub by_case : IsByCase options parts

-- `reason` is why parts do not tell which texts they match: case is kept, and a custom expression
-- is not simple, or case is ignored, and a part is custom.
abbrev pub AreUnknownBy : OptionsView → List PartView → Reason → Type 0
AreUnknownBy options parts reasons.CustomExpression =
    (¬ AreSimple parts) × (options.ignore_case ≡ false)
AreUnknownBy options parts reasons.IgnoredCase =
    (¬ AreGenerated parts) × (options.ignore_case ≡ true)
AreUnknownBy options parts reasons.TooMany = ⊥

-- `reason` is true of two lists of parts if no text is known that the first matches, and that the
-- second matches or does not: the parts of one of the two do not tell, or the work is too much.
abbrev pub IsReason : OptionsView → List PartView → OptionsView → List PartView → Reason → Type 0
IsReason options parts other_options others reasons.TooMany =
    IsTooMuch options parts other_options others
IsReason options parts other_options others reason =
    AreUnknownBy options parts reason ⊎ AreUnknownBy other_options others reason

-- What each result of `covers` says. Covered: the parts match each text without line feed that the
-- asked parts match. NotCovered: only the asked parts match the text, which has no line feed.
-- Unknown: the reason is true of the two lists (`IsReason`).
abbrev pub IsCovering : OptionsView → List PartView
    → (asked_options : OptionsView) → (asked : List PartView) → Covering → Type 0
IsCovering options parts asked_options asked coverings.Covered =
    (text : List ℕ) → IsLine text
    → MeansText asked_options asked text → MeansText options parts text
IsCovering options parts asked_options asked (coverings.NotCovered text) =
    MeansText asked_options asked text.items
    × (¬ MeansText options parts text.items)
    × IsLine text.items
IsCovering options parts asked_options asked (coverings.Unknown reason) =
    IsReason asked_options asked options parts reason

-- What each result of `overlaps` says. Apart: no text without line feed exists that both lists of
-- parts match. Common: both match the text, which has no line feed. Unknown: the reason is true of
-- the two lists (`IsReason`).
abbrev pub IsOverlap : OptionsView → List PartView → OptionsView → List PartView → Overlap → Type 0
IsOverlap options parts other_options others overlaps.Apart =
    (text : List ℕ) → IsLine text
    → MeansText options parts text → ¬ MeansText other_options others text
IsOverlap options parts other_options others (overlaps.Common text) =
    MeansText options parts text.items
    × MeansText other_options others text.items
    × IsLine text.items
IsOverlap options parts other_options others (overlaps.Unknown reason) =
    IsReason options parts other_options others reason

-- `IsCovering`, of options and parts as arguments of a call.
abbrev pub IsCoveringOf : Options → List Part → (asked_options : Options) → (asked : List Part)
    → Covering → Type 0
IsCoveringOf options parts asked_options asked =
    IsCovering (options_view options) (parts_view parts) (options_view asked_options)
    (parts_view asked)

-- `IsOverlap`, of options and parts as arguments of a call.
abbrev pub IsOverlapOf : Options → List Part → Options → List Part → Overlap → Type 0
IsOverlapOf options parts other_options others =
    IsOverlap (options_view options) (parts_view parts) (options_view other_options)
    (parts_view others)

-- ---- steps

-- If an automaton was made, `Is` holds of it. Nothing is said if memory ran out, or if the
-- automaton would have too many states.
abbrev pub IfMade : {E : Type 0} → Result (Option PartsAutomaton) E → (PartsAutomaton → Type 0)
    → Type 0
IfMade result Is = IfOk result (λ found. IfSome found Is)

-- The automaton accepts exactly the texts of characters that the parts match.
abbrev pub AcceptsMeaning : OptionsView → List PartView → PartsAutomaton → Type 0
AcceptsMeaning options parts automaton =
    (text : List ℕ) → IsTrue (all_scalars text)
    → AcceptsText automaton text ↔ MeansText options parts text

-- What each result of `find_meant` says. The text sought has no line feed, the parts match it, and
-- the others match it if `is_meant` is true, and do not if it is false. Text: the text is as
-- sought. Nothing: no text of characters is. Unknown: the reason is true of the two lists
-- (`IsReason`).
abbrev pub IsSought : OptionsView → List PartView → OptionsView → List PartView
    → (is_meant : Bool) → Answer → Type 0
IsSought options parts other_options others is_meant (answers.Text text) =
    MeansText options parts text.items
    × IsWhether is_meant (MeansText other_options others text.items)
    × IsLine text.items
IsSought options parts other_options others is_meant answers.Nothing =
    (text : List ℕ) → IsLine text
    → MeansText options parts text
    → IsWhether (not is_meant) (MeansText other_options others text)
IsSought options parts other_options others is_meant (answers.Unknown reason) =
    IsReason options parts other_options others reason

-- `IsSought`, of options and parts as arguments of a call.
abbrev pub IsSoughtOf : Options → List Part → Options → List Part → (is_meant : Bool) → Answer
    → Type 0
IsSoughtOf options parts other_options others =
    IsSought (options_view options) (parts_view parts) (options_view other_options)
    (parts_view others)

-- What each result of `find_by` says. Text: the text has no line feed, the first automaton accepts
-- it, and the second accepts it if `is_accepted` is true, and rejects it if false. Nothing: no text
-- of characters is of this kind. TooMany: the automata have too many sets of states.
abbrev pub IsFoundBy : (one other : PartsAutomaton) → (is_accepted : Bool) → Found → Type 0
IsFoundBy one other is_accepted (founds.Text text) =
    IsTrue (accepts one text.items)
    × (accepts other text.items ≡ is_accepted)
    × IsLine text.items
IsFoundBy one other is_accepted founds.Nothing =
    (text : List ℕ) → IsLine text → IsTrue (accepts one text)
    → accepts other text ≡ not is_accepted
IsFoundBy one other is_accepted founds.TooMany = HaveManySets one other

-- What a search found, as an `Answer`. A search that exceeded its bound is `Unknown`, for the
-- reason `TooMany`.
abbrev pub answer_of : Found → Answer
answer_of (founds.Text text) = answers.Text text
answer_of founds.Nothing = answers.Nothing
answer_of founds.TooMany = answers.Unknown reasons.TooMany
