-- The texts that automata accept.
use Rattle.std.specs.Prelude.{◌≡◌, ℕ, ◌<◌, Bool, true, false, not, ◌==◌, ◌&&◌, nat_le, All, Contains, List, [], ◌∷◌, IsTrue, map}
use Rattle.urlpattern_compare.specs.declared.parts_automaton.PartsAutomaton.{PartsAutomaton}
use Rattle.urlpattern_compare.specs.declared.parts_automaton.Edge.{Edge}
use Rattle.urlpattern_compare.specs.declared.parts_automaton.Test.{Test}
use Rattle.urlpattern_compare.specs.declared.parts_automaton.Test.TheVariants.{Only, AnyBut, Within}
use Rattle.urlpattern_meaning.specs.Matching.{folded_character}

-- Whether the character passes the test.
abbrev pub passes : Test → ℕ → Bool
passes (Only c) other = other == c
passes (AnyBut c) other = not (other == c)
passes (Within first last) other = nat_le first other && nat_le other last

-- The edges lead from the state to state 0 by the text, one edge for each character.
abbrev pub Leads : List Edge → (state : ℕ) → (text : List ℕ) → Type 0
Leads edges state [] = state ≡ 0
Leads edges state (c ∷ text) =
    (edge : Edge) × Contains edges edge
    × (edge.from ≡ state)
    × IsTrue (passes edge.test c)
    × Leads edges edge.to text

-- The edges lead from one of the states to state 0 by the text.
abbrev pub LeadsFrom : List Edge → (states : List ℕ) → (text : List ℕ) → Type 0
LeadsFrom edges states text = (state : ℕ) × Contains states state × Leads edges state text

-- The automaton accepts the text: the edges lead from a start state to state 0 by the text, in
-- lower case if the automaton ignores case.
abbrev pub AcceptsText : PartsAutomaton → (text : List ℕ) → Type 0
AcceptsText automaton text =
    LeadsFrom automaton.edges.items automaton.starts.items
    (map (folded_character automaton.ignore_case) text)

-- The states that edges lead to and the start states are less than the automaton's number of
-- states.
pub record IsWithin (automaton : PartsAutomaton) : Type 0 where
  pub edges : All (λ edge. edge.to < automaton.states) automaton.edges.items
  pub starts : All (λ state. state < automaton.states) automaton.starts.items

-- `fact` holds if the flag is true, and does not hold if the flag is false.
abbrev pub IsWhether : Bool → Type 0 → Type 0
IsWhether true fact = fact
IsWhether false fact = ¬ fact
