-- Sets of states of an automaton, and how far a search goes.
use Rattle.std.specs.Prelude.{ℕ, ◌+◌, ◌≤◌, Bool, true, false, ◌&&◌, List, [], ◌∷◌, length, if◌then◌else◌, slice_set, replicate}
use Rattle.std.specs.List.{slice_index_or}
use Rattle.urlpattern_compare.specs.Automata.{passes}
use Rattle.urlpattern_compare.specs.declared.parts_automaton.PartsAutomaton.{PartsAutomaton}
use Rattle.urlpattern_compare.specs.declared.parts_automaton.Edge.{Edge}
use Rattle.urlpattern_compare.specs.declared.search.TheConstants.{FEW_STATES, MOST_SETS, SETS_OF_FEW}

-- ---- sets of states

-- Whether the state is in the set, which has a flag for each state.
abbrev pub is_in : List Bool → ℕ → Bool
is_in flags state = slice_index_or flags state false

-- The set `flags` with the states added.
abbrev pub with_states : (flags : List Bool) → (states : List ℕ) → List Bool
with_states flags [] = flags
with_states flags (state ∷ states) = with_states (slice_set flags state true) states

-- The set `flags` with the states added to which the edges lead from the states of `from` by the
-- character `c`.
abbrev pub with_moves : (flags : List Bool) → (from : List Bool) → (c : ℕ) → List Edge → List Bool
with_moves flags from c [] = flags
with_moves flags from c (edge ∷ edges) =
    with_moves
    (if is_in from edge.from && passes edge.test c then slice_set flags edge.to true else flags)
    from c edges

-- The set of the states to which the edges lead from the states of `from` by the character `c`.
abbrev pub moved : List Edge → (from : List Bool) → (c : ℕ) → List Bool
moved edges from c = with_moves (replicate (length from) false) from c edges

-- The set of the start states of the automaton.
abbrev pub starts_of : PartsAutomaton → List Bool
starts_of automaton = with_states (replicate automaton.states false) automaton.starts.items

-- ---- the bound

-- A search of two automata with these numbers of states is given up when it reaches more than
-- `most` sets of states: at least `MOST_SETS`, and all that there can be where they have few
-- states.
abbrev pub IsMostSets : (states others most : ℕ) → Type 0
IsMostSets states others most =
    (MOST_SETS ≤ most) × (states + others ≤ FEW_STATES → SETS_OF_FEW ≤ most)
