-- Conditions on a text: that automata accept it, or reject it. What a text does to several automata
-- is seen by the sets of states to which it leads them, one after the other in one list of flags.
use Rattle.std.specs.Prelude.{ℕ, All, Bool, true, false, not, ◌&&◌, ◌||◌, List, [], ◌∷◌, ◌++◌, IsTrue, drop, map, take}
use Rattle.std.specs.List.{list_any}
use Rattle.urlpattern_compare.specs.Searching.{is_in, moved, starts_of}
use Rattle.urlpattern_compare.specs.declared.condition.Condition.{Condition}
use Rattle.urlpattern_compare.specs.declared.parts_automaton.PartsAutomaton.{PartsAutomaton}
use Rattle.urlpattern_compare.specs.declared.parts_automaton.Edge.{Edge}
use Rattle.urlpattern_meaning.specs.Matching.{folded_character}

-- ---- one automaton

-- The set of the states to which the edges lead from the states of `from` by the text.
abbrev pub states_by : List Edge → (from : List Bool) → (text : List ℕ) → List Bool
states_by edges from [] = from
states_by edges from (c ∷ text) = states_by edges (moved edges from c) text

-- The set of the states to which the text leads from the start states, in lower case if the
-- automaton ignores case.
abbrev pub states_after : PartsAutomaton → (text : List ℕ) → List Bool
states_after automaton text =
    states_by automaton.edges.items (starts_of automaton)
    (map (folded_character automaton.ignore_case) text)

-- Whether the automaton accepts the text.
abbrev pub accepts : PartsAutomaton → (text : List ℕ) → Bool
accepts automaton text = is_in (states_after automaton text) 0

-- Whether an automaton does what is asked of it, where `found` says whether it accepts.
abbrev pub is_as : (asked found : Bool) → Bool
is_as true found = found
is_as false found = not found

-- Whether the text meets the condition.
abbrev pub is_met : Condition → (text : List ℕ) → Bool
is_met it text = is_as it.is_accepted (accepts it.automaton.now text)

-- The text meets each of the conditions, whatever their components.
abbrev pub Meets : List Condition → (text : List ℕ) → Type 0
Meets conditions text = All (λ it. IsTrue (is_met it text)) conditions

-- ---- several automata

-- The sets of the start states.
abbrev pub joint_starts : List Condition → List Bool
joint_starts [] = []
joint_starts (it ∷ others) = starts_of it.automaton.now ++ joint_starts others

-- The sets of the states to which the text leads from the start states.
abbrev pub joint_after : List Condition → (text : List ℕ) → List Bool
joint_after [] text = []
joint_after (it ∷ others) text = states_after it.automaton.now text ++ joint_after others text

-- The sets of the states to which the character leads from the sets `from`, in lower case where an
-- automaton ignores case.
abbrev pub joint_moved : List Condition → (from : List Bool) → (c : ℕ) → List Bool
joint_moved [] from c = []
joint_moved (it ∷ others) from c =
    moved it.automaton.now.edges.items (take it.automaton.now.states from)
    (folded_character it.automaton.now.ignore_case c)
    ++ joint_moved others (drop it.automaton.now.states from) c

-- Whether a text that leads to the sets `flags` meets each of the conditions.
abbrev pub are_met : List Condition → (flags : List Bool) → Bool
are_met [] flags = true
are_met (it ∷ others) flags =
    is_as it.is_accepted (is_in (take it.automaton.now.states flags) 0)
    && are_met others (drop it.automaton.now.states flags)

-- Whether each automaton that has to accept is in some state at the sets `flags`.
abbrev pub are_open : List Condition → (flags : List Bool) → Bool
are_open [] flags = true
are_open (it ∷ others) flags =
    (not it.is_accepted || list_any (λ flag. flag) (take it.automaton.now.states flags))
    && are_open others (drop it.automaton.now.states flags)
