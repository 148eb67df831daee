-- Comparing two components of few states is not too much work.
use Rattle.std.proofs.Common.{◌≡◌, ◌<◌, ◌≤◌, ◌+◌, ◌^◌, ℕ, List, ◌++◌, arith, inl, inr, length, length-append, refl}
use Rattle.std.proofs.lemmas.Bool.{cases_lt}
use Rattle.std.proofs.Math.Nat.{pow-le-pow_right}
use Rattle.urlpattern_compare.proofs.BoundLemmas.{few_values, pieces}
use Rattle.urlpattern_compare.proofs.ConditionLemmas.{length_after}
use Rattle.urlpattern_compare.proofs.WorkLemmas.{made_states, parts_states}
use Rattle.urlpattern_compare.specs.Answers.{IsSearchLong, LeadBothAlike}
use Rattle.urlpattern_compare.specs.Comparing.{IsReasonToShare}
use Rattle.urlpattern_compare.specs.Conditions.{states_after}
use Rattle.urlpattern_compare.specs.TextSearch.{AreUnlike}
use Rattle.urlpattern_compare.specs.WorkBounds.{SmallAreCompared, component_size, parts_size}
use Rattle.urlpattern_compare.specs.declared.coverage.Reason.TheVariants.{TooMany}
use Rattle.urlpattern_compare.specs.declared.parts_automaton.PartsAutomaton.{PartsAutomaton}
use Rattle.urlpattern_meaning.specs.PartMeaning.{AreGenerated}
use Rattle.urlpattern_syntax.specs.{Options.OptionsView, Options.options_view, Parts.PartView, Parts.parts_view}
use Rattle.urlpattern_syntax.specs.declared.parts.ComponentParts.{ComponentParts}

-- Two automata have at most as many sets of states as 2 to the power of the number of their states.
few_sets : (one other : PartsAutomaton) (texts : List (List ℕ)) → AreUnlike (LeadBothAlike one other) texts → length texts ≤ 2 ^ (one.states + other.states)
few_sets one other texts apart =
    few_values (LeadBothAlike one other) (λ text. states_after one text ++ states_after other text) (one.states + other.states) texts
    (λ text another e. pieces one.states (states_after one text) (states_after one another) (states_after other text) (states_after other another) (length_after one text) (length_after one another) e)
    (λ text.
    let all = length-append (states_after one text) (states_after other text) in
    let own = length_after one text in
    let rest = length_after other text in
    omega arith)
    apart

long_search : (options : OptionsView) (parts : List PartView) (other_options : OptionsView) (others : List PartView) → AreGenerated parts → AreGenerated others → IsSearchLong options parts other_options others → 19 < parts_size parts + parts_size others
long_search options parts other_options others gen other_gen (one, other, same, other_same, (most, is_most, (texts, many, lines, apart))) =
    let few = few_sets one other texts apart in
    let states : one.states ≡ parts_size parts = made_states options parts one gen same in
    let other_states : other.states ≡ parts_size others = made_states other_options others other other_gen other_same in
    elim (cases_lt 19 (one.states + other.states)) [
      | inl large ↦ omega arith
      | inr small ↦
          let most_few : 524288 ≤ most = is_most.1 small in
          let bound : 2 ^ (one.states + other.states) ≤ 2 ^ 19 = pow-le-pow_right (omega arith) small in
          let all : 2 ^ 19 ≡ 524288 = refl in
          absurd (omega arith)
    ]

small_shared : (component other : ComponentParts) → AreGenerated (parts_view component.parts.items) → AreGenerated (parts_view other.parts.items) → component_size component + component_size other ≤ 19 → ¬ IsReasonToShare component other TooMany
small_shared component other gen other_gen few much =
    let options = options_view component.options in
    let parts = parts_view component.parts.items in
    let other_options = options_view other.options in
    let others = parts_view other.parts.items in
    let own_states = parts_states options parts in
    let other_states = parts_states other_options others in
    elim much.2 [
      | inl states ↦ elim states [
        | inl many ↦ elim many [ inl custom ↦ absurd (custom gen) | inr states ↦ absurd (omega arith) ]
        | inr many ↦ elim many [ inl custom ↦ absurd (custom other_gen) | inr states ↦ absurd (omega arith) ]
      ]
      | inr long ↦ let above = long_search options parts other_options others gen other_gen long in absurd (omega arith)
    ]

pub small_compared : SmallAreCompared
small_compared component other gen other_gen few = (small_shared other component other_gen gen (omega arith), small_shared component other gen other_gen few)
