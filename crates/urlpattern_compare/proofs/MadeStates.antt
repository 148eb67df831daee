-- The texts that the states of an automaton read, which is made cell by cell.
use Rattle.std.proofs.Common.{◌≡◌, ℕ, ◌+◌, ◌<◌, List, [], ◌∷◌, ◌++◌, refl, sym, subst, ap, inl, inr, ◌↔◌, arith}
use Rattle.std.proofs.lemmas.List.Elements.{Contains-append_cases, Contains-append_left, Contains-append_right}
use Rattle.std.specs.List.{Contains}
use Rattle.std.specs.Prelude.{IsTrue}
use Rattle.urlpattern_compare.specs.Automata.{Leads, LeadsFrom, passes}
use Rattle.urlpattern_compare.specs.Making.{Made, edges_to, with_cell}
use Rattle.urlpattern_compare.specs.declared.parts_automaton.Edge.{Edge}
use Rattle.urlpattern_compare.specs.declared.parts_automaton.Test.{Test}
use Rattle.urlpattern_compare.specs.declared.cells.Cell.{Cell}
use Rattle.urlpattern_compare.specs.declared.cells.Cell.TheVariants.{One, Many}
use Rattle.urlpattern_compare.proofs.StateSets.{contains_cons, contains_head, contains_tail}

-- ---- edges of a new state

pub edges_to_has : (from : ℕ) (test : Test) (others : List ℕ) (edge : Edge) → Contains (edges_to from test others) edge → (edge.from ≡ from) × (edge.test ≡ test) × Contains others edge.to
edges_to_has from test [] edge (k, lt, e) = absurd (omega arith)
edges_to_has from test (to ∷ others) edge has =
    let first : Edge = record { from = from; test = test; to = to } in
    elim (contains_cons first edge (edges_to from test others) has) [
      | inl e ↦ (
        sym (ap (λ (it : Edge). it.from) e),
        sym (ap (λ (it : Edge). it.test) e),
        subst (λ (it : Edge). Contains (to ∷ others) it.to) e (contains_head to others),
      )
      | inr later ↦ let found = edges_to_has from test others edge later in (found.0, found.1, contains_tail to edge.to others found.2)
    ]

pub has_edge_to : (from : ℕ) (test : Test) (others : List ℕ) (to : ℕ) → Contains others to → Contains (edges_to from test others) (record { from = from; test = test; to = to })
has_edge_to from test [] to (k, lt, e) = absurd (omega arith)
has_edge_to from test (other ∷ others) to has =
    let edge : ℕ → Edge = λ it. record { from = from; test = test; to = it } in
    elim (contains_cons other to others has) [
      | inl e ↦ subst (λ it. Contains (edges_to from test (other ∷ others)) (edge it)) e (contains_head (edge other) (edges_to from test others))
      | inr later ↦ contains_tail (edge other) (edge to) (edges_to from test others) (has_edge_to from test others to later)
    ]

-- ---- what was made among all edges

-- All edges are those of what was made, and edges from later states.
pub record IsPartOf (all : List Edge) (made : Made) : Type 0 where
  pub kept : (edge : Edge) → Contains made.edges edge → Contains all edge
  pub only : (edge : Edge) → edge.from < made.count → Contains all edge → Contains made.edges edge
  pub below : (edge : Edge) → Contains made.edges edge → edge.from < made.count
  pub some : 0 < made.count

-- The states that the new state leads to.
abbrev pub targets : Made → Cell → List ℕ
targets made (One test) = made.starts
targets made (Many test) = made.starts ++ made.count ∷ []

abbrev pub test_of : Cell → Test
test_of (One test) = test
test_of (Many test) = test

-- A cell adds edges from the new state, and a state.
pub cell_edges : (made : Made) (cell : Cell) → (with_cell made cell).edges ≡ made.edges ++ edges_to made.count (test_of cell) (targets made cell)
cell_edges made (One test) = refl
cell_edges made (Many test) = refl

pub cell_count : (made : Made) (cell : Cell) → (with_cell made cell).count ≡ made.count + 1
cell_count made (One test) = refl
cell_count made (Many test) = refl

-- What was made before the cell is a part of all edges.
pub within_before : (all : List Edge) (made : Made) (cell : Cell) → (within : IsPartOf all (with_cell made cell)) →
    ((edge : Edge) → Contains made.edges edge → edge.from < made.count) → 0 < made.count → IsPartOf all made
within_before all made cell within below some =
    let more = edges_to made.count (test_of cell) (targets made cell) in
    let edges = cell_edges made cell in
    let count = cell_count made cell in
    record {
      kept = λ edge has. within.kept edge (subst (λ l. Contains l edge) (sym edges) (Contains-append_left made.edges more edge has));
      only = λ edge lt has. elim (Contains-append_cases made.edges more edge (subst (λ l. Contains l edge) edges (within.only edge (omega arith) has))) [
        | inl before ↦ before
        | inr new ↦ let found = edges_to_has made.count (test_of cell) (targets made cell) edge new in let same = found.0 in absurd (omega arith)
      ];
      below = below;
      some = some;
    }

-- The texts that the new state reads.
pub cell_state : (all : List Edge) (made : Made) (cell : Cell) → IsPartOf all (with_cell made cell) → ((edge : Edge) → Contains made.edges edge → edge.from < made.count) → (c : ℕ) (text : List ℕ) →
    Leads all made.count (c ∷ text) ↔ (IsTrue (passes (test_of cell) c) × LeadsFrom all (targets made cell) text)
cell_state all made cell within below c text =
    let test = test_of cell in
    let more = edges_to made.count test (targets made cell) in
    let edges = cell_edges made cell in
    let count = cell_count made cell in (
      λ (edge, has, from, passed, leads). elim (Contains-append_cases made.edges more edge (subst (λ l. Contains l edge) edges (within.only edge (omega arith) has))) [
        | inl before ↦ let lt = below edge before in absurd (omega arith)
        | inr new ↦
            let found = edges_to_has made.count test (targets made cell) edge new in
            (subst (λ t. IsTrue (passes t c)) found.1 passed, (edge.to, found.2, leads))
      ],
      λ (passed, (to, has, leads)).
          let edge : Edge = record { from = made.count; test = test; to = to } in (
            edge,
            within.kept edge (subst (λ l. Contains l edge) (sym edges) (Contains-append_right made.edges more edge (has_edge_to made.count test (targets made cell) to has))),
            refl,
            passed,
            leads,
          ),
    )
