-- The edges of a shape, and whether it has the empty text.
use Rattle.std.proofs.Common.{◌≡◌, ℕ, ◌+◌, ◌<◌, ◌≤◌, Bool, true, false, List, [], ◌∷◌, ◌++◌, refl, sym, subst, ap, ap₂, ◌∙◌, ◌⊎◌, inl, inr, arith}
use Rattle.std.proofs.lemmas.Bool.{or_right}
use Rattle.std.proofs.lemmas.List.Elements.{Contains-append_cases, Contains-append_left, Contains-append_right}
use Rattle.std.specs.List.{Contains}
use Rattle.std.specs.Prelude.{◌&&◌, ◌||◌, IsTrue}
use Rattle.regex_class.specs.Ranges.{in_range, in_ranges}
use Rattle.regex_class.proofs.RangesLemmas.{in_ranges-cons, in_ranges-nil}
use Rattle.urlpattern_compare.specs.Automata.{passes}
use Rattle.urlpattern_compare.specs.Making.{begins, edges_to, edges_within, heads, shape_edges, shape_size, takes_empty}
use Rattle.urlpattern_compare.specs.declared.parts_automaton.Edge.{Edge}
use Rattle.urlpattern_compare.specs.declared.parts_automaton.Test.TheVariants.{Within}
use Rattle.urlpattern_compare.proofs.MadeStates.{edges_to_has, has_edge_to}
use Rattle.urlpattern_compare.proofs.StateSets.{both}
use Rattle.urlpattern_expressions.specs.Shapes.{Shape, Takes, choice, nothing, one_of, sequence, several}

-- ---- the empty text

or_cases : (a b : Bool) → (a || b) ≡ true → (a ≡ true) ⊎ (b ≡ true)
or_cases true b e = inl refl
or_cases false b e = inr e

nothing_twice : (first rest : List ℕ) → [] ≡ first ++ rest → (first ≡ []) × (rest ≡ [])
nothing_twice [] rest e = (refl, sym e)
nothing_twice (c ∷ first) rest e = absurd cc

-- The shape has the empty text if `takes_empty` says so.
pub empty_taken : (shape : Shape) → takes_empty shape ≡ true → Takes shape []
empty_taken nothing e = refl
empty_taken (one_of ranges) e = absurd cc
empty_taken (sequence one other) e =
    let two = both (takes_empty one) (takes_empty other) e in
    ([], [], refl, empty_taken one two.0, empty_taken other two.1)
empty_taken (choice one other) e = elim (or_cases (takes_empty one) (takes_empty other) e) [
  | inl here ↦ inl (empty_taken one here)
  | inr there ↦ inr (empty_taken other there)
]
empty_taken (several one) e = (0, ([], [], refl, empty_taken one e, refl))

pub taken_empty : (shape : Shape) (text : List ℕ) → text ≡ [] → Takes shape text → takes_empty shape ≡ true
taken_empty nothing text e takes = refl
taken_empty (one_of ranges) text e (c, is, here) = absurd cc
taken_empty (sequence one other) text e (first, rest, cut, takes, more) =
    let ends = nothing_twice first rest (sym e ∙ cut) in
    ap₂ ◌&&◌ (taken_empty one first ends.0 takes) (taken_empty other rest ends.1 more)
taken_empty (choice one other) text e takes = elim takes [
  | inl here ↦ ap (λ b. b || takes_empty other) (taken_empty one text e here)
  | inr there ↦ or_right (takes_empty one) (takes_empty other) (taken_empty other text e there)
]
taken_empty (several one) text e (n, (first, rest, cut, takes, more)) =
    let ends = nothing_twice first rest (sym e ∙ cut) in taken_empty one first ends.0 takes

-- ---- edges

range_passes : (range : ℕ × ℕ) (c : ℕ) → in_range range c ≡ passes (Within range.0 range.1) c
unfolding in_range
range_passes range c = refl

pub within_has : (from : ℕ) (ranges : List (ℕ × ℕ)) (others : List ℕ) (edge : Edge) → Contains (edges_within from ranges others) edge →
    (edge.from ≡ from) × ((c : ℕ) → IsTrue (passes edge.test c) → IsTrue (in_ranges ranges c)) × Contains others edge.to
within_has from [] others edge (k, lt, e) = absurd (omega arith)
within_has from (range ∷ ranges) others edge has = elim (Contains-append_cases (edges_to from (Within range.0 range.1) others) (edges_within from ranges others) edge has) [
  | inl here ↦
      let found = edges_to_has from (Within range.0 range.1) others edge here in
      (found.0, λ c passed. in_ranges-cons range ranges c ∙ ap (λ b. b || in_ranges ranges c) (range_passes range c ∙ subst (λ t. IsTrue (passes t c)) found.1 passed), found.2)
  | inr later ↦
      let found = within_has from ranges others edge later in
      (found.0, λ c passed. in_ranges-cons range ranges c ∙ or_right (in_range range c) (in_ranges ranges c) (found.1 c passed), found.2)
]

pub within_edge : (from : ℕ) (ranges : List (ℕ × ℕ)) (others : List ℕ) (to c : ℕ) → Contains others to → in_ranges ranges c ≡ true →
    (edge : Edge) × Contains (edges_within from ranges others) edge × (edge.from ≡ from) × IsTrue (passes edge.test c) × (edge.to ≡ to)
within_edge from [] others to c has inside = absurd (let e = sym inside ∙ in_ranges-nil c in cc)
within_edge from (range ∷ ranges) others to c has inside = elim (or_cases (in_range range c) (in_ranges ranges c) (sym (in_ranges-cons range ranges c) ∙ inside)) [
  | inl here ↦
      let edge : Edge = record { from = from; test = Within range.0 range.1; to = to } in
      (edge, Contains-append_left (edges_to from (Within range.0 range.1) others) (edges_within from ranges others) edge (has_edge_to from (Within range.0 range.1) others to has), refl, sym (range_passes range c) ∙ here, refl)
  | inr later ↦
      let found = within_edge from ranges others to c has later in
      (found.0, Contains-append_right (edges_to from (Within range.0 range.1) others) (edges_within from ranges others) found.0 found.1, found.2, found.3, found.4)
]

-- The edges of a shape leave its own states.
pub shape_from : (shape : Shape) (count : ℕ) (starts : List ℕ) (edge : Edge) → Contains (shape_edges shape count starts) edge → (count ≤ edge.from) × (edge.from < count + shape_size shape)
shape_from nothing count starts edge (k, lt, e) = absurd (omega arith)
shape_from (one_of ranges) count starts edge has = let found = within_has count ranges starts edge has in let e = found.0 in (omega arith, omega arith)
shape_from (sequence one other) count starts edge has = elim (Contains-append_cases (shape_edges other count starts) (shape_edges one (count + shape_size other) (begins other count starts)) edge has) [
  | inl here ↦ let (low, high) = shape_from other count starts edge here in (low, omega arith)
  | inr there ↦ let (low, high) = shape_from one (count + shape_size other) (begins other count starts) edge there in (omega arith, omega arith)
]
shape_from (choice one other) count starts edge has = elim (Contains-append_cases (shape_edges one count starts) (shape_edges other (count + shape_size one) starts) edge has) [
  | inl here ↦ let (low, high) = shape_from one count starts edge here in (low, omega arith)
  | inr there ↦ let (low, high) = shape_from other (count + shape_size one) starts edge there in (omega arith, omega arith)
]
shape_from (several one) count starts edge has = shape_from one count (starts ++ heads one count) edge has
