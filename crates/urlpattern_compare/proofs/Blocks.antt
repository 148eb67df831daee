-- The texts that the starts of an automaton under construction read.
use Rattle.std.proofs.Common.{◌≡◌, ℕ, ◌+◌, ◌<◌, true, List, [], ◌∷◌, ◌++◌, refl, sym, subst, ◌⊎◌, inl, inr, ◌↔◌, arith}
use Rattle.std.proofs.lemmas.List.Elements.{Contains-append_cases, Contains-append_left, Contains-append_right}
use Rattle.std.specs.List.{Contains}
use Rattle.urlpattern_compare.specs.Automata.{Leads, LeadsFrom}
use Rattle.urlpattern_compare.specs.Cells.{has_one}
use Rattle.urlpattern_compare.specs.Making.{Made, new_starts, with_cell, with_cells}
use Rattle.urlpattern_compare.specs.declared.parts_automaton.Edge.{Edge}
use Rattle.urlpattern_compare.specs.declared.parts_automaton.Test.{Test}
use Rattle.urlpattern_compare.specs.declared.cells.Cell.{Cell}
use Rattle.urlpattern_compare.specs.declared.cells.Cell.TheVariants.{One, Many}
use Rattle.urlpattern_compare.proofs.CellTexts.{CellThen, CellsThen, OneThen, RunThen, cells_map}
use Rattle.urlpattern_compare.proofs.MadeStates.{IsPartOf, cell_count, cell_edges, cell_state, edges_to_has, targets, test_of, within_before}
use Rattle.urlpattern_compare.proofs.StateSets.{contains_cons, contains_head}

-- ---- well made

-- The edges of what was made begin below its number of states.
pub record IsMade (made : Made) : Type 0 where
  pub below : (edge : Edge) → Contains made.edges edge → edge.from < made.count
  pub some : 0 < made.count

pub cell_made : (made : Made) (cell : Cell) → IsMade made → IsMade (with_cell made cell)
cell_made made cell is =
    let count = cell_count made cell in
    record {
      below = λ edge has. elim (Contains-append_cases made.edges _ edge (subst (λ l. Contains l edge) (cell_edges made cell) has)) [
        | inl before ↦ let lt = is.below edge before in omega arith
        | inr new ↦ let same = (edges_to_has made.count (test_of cell) (targets made cell) edge new).0 in omega arith
      ];
      some = let h = is.some in omega arith;
    }

pub cells_made : (made : Made) (cells : List Cell) → IsMade made → IsMade (with_cells made cells)
cells_made made [] is = is
cells_made made (cell ∷ cells) is = cells_made (with_cell made cell) cells (cell_made made cell is)

-- What was made first stays a part of all edges.
pub cells_within : (all : List Edge) (made : Made) (cells : List Cell) → IsMade made → IsPartOf all (with_cells made cells) → IsPartOf all made
cells_within all made [] is within = within
cells_within all made (cell ∷ cells) is within =
    within_before all made cell (cells_within all (with_cell made cell) cells (cell_made made cell is) within) is.below is.some

-- ---- from the starts

-- A text leads from one of two lists of states if it leads from either list.
pub from_append : (all : List Edge) (states others : List ℕ) (text : List ℕ) → LeadsFrom all (states ++ others) text ↔ (LeadsFrom all states text ⊎ LeadsFrom all others text)
from_append all states others text = (
  λ (state, has, leads). elim (Contains-append_cases states others state has) [
    | inl left ↦ inl (state, left, leads)
    | inr right ↦ inr (state, right, leads)
  ],
  λ either. elim either [
    | inl (state, has, leads) ↦ (state, Contains-append_left states others state has, leads)
    | inr (state, has, leads) ↦ (state, Contains-append_right states others state has, leads)
  ],
)

-- A text leads from a list of one state if it leads from that state.
pub from_one : (all : List Edge) (state : ℕ) (text : List ℕ) → LeadsFrom all (state ∷ []) text ↔ Leads all state text
from_one all state text = (
  λ (other, has, leads). elim (contains_cons state other [] has) [
    | inl e ↦ subst (λ s. Leads all s text) (sym e) leads
    | inr (k, lt, e) ↦ absurd (omega arith)
  ],
  λ leads. (state, contains_head state [], leads),
)

pub from_none : (all : List Edge) (text : List ℕ) → ¬ LeadsFrom all [] text
from_none all text (state, (k, lt, e), leads) = absurd (omega arith)

-- ---- cells

one_read : (all : List Edge) (made : Made) (test : Test) → IsMade made → IsPartOf all (with_cell made (One test)) → (text : List ℕ) →
    LeadsFrom all (made.count ∷ []) text ↔ OneThen test (LeadsFrom all made.starts) text
one_read all made test is within [] = (λ leads. let e : made.count ≡ 0 = (from_one all made.count []).0 leads in let h = is.some in absurd (omega arith), λ none. absurd none)
one_read all made test is within (c ∷ text) =
    let state = cell_state all made (One test) within is.below c text in
    let from = from_one all made.count (c ∷ text) in
    (λ leads. state.0 (from.0 leads), λ reads. from.1 (state.1 reads))

many_read : (all : List Edge) (made : Made) (test : Test) → IsMade made → IsPartOf all (with_cell made (Many test)) → (text : List ℕ) →
    LeadsFrom all (made.starts ++ made.count ∷ []) text ↔ RunThen test (LeadsFrom all made.starts) text
many_read all made test is within [] =
    let both = from_append all made.starts (made.count ∷ []) [] in (
      λ leads. elim (both.0 leads) [
        | inl before ↦ before
        | inr new ↦ let e : made.count ≡ 0 = (from_one all made.count []).0 new in let h = is.some in absurd (omega arith)
      ],
      λ reads. both.1 (inl reads),
    )
many_read all made test is within (c ∷ text) =
    let both = from_append all made.starts (made.count ∷ []) (c ∷ text) in
    let from = from_one all made.count (c ∷ text) in
    let state = cell_state all made (Many test) within is.below c text in
    let rest = many_read all made test is within text in (
      λ leads. elim (both.0 leads) [
        | inl before ↦ inl before
        | inr new ↦ let found = state.0 (from.0 new) in inr (found.0, rest.0 found.1)
      ],
      λ reads. elim reads [
        | inl before ↦ both.1 (inl before)
        | inr more ↦ both.1 (inr (from.1 (state.1 (more.0, rest.1 more.1))))
      ],
    )

cell_read : (all : List Edge) (made : Made) (cell : Cell) → IsMade made → IsPartOf all (with_cell made cell) → (text : List ℕ) →
    LeadsFrom all (with_cell made cell).starts text ↔ CellThen cell (LeadsFrom all made.starts) text
cell_read all made (One test) is within text = one_read all made test is within text
cell_read all made (Many test) is within text = many_read all made test is within text

-- The starts after the cells read what the cells read, followed by what was made.
pub cells_read : (all : List Edge) (made : Made) (cells : List Cell) → IsMade made → IsPartOf all (with_cells made cells) → (text : List ℕ) →
    LeadsFrom all (with_cells made cells).starts text ↔ CellsThen cells (LeadsFrom all made.starts) text
cells_read all made [] is within text = (λ leads. leads, λ leads. leads)
cells_read all made (cell ∷ cells) is within text =
    let next = with_cell made cell in
    let first = cell_read all made cell is (cells_within all next cells (cell_made made cell is) within) in
    let rest = cells_read all next cells (cell_made made cell is) within text in (
      λ leads. cells_map cells (LeadsFrom all next.starts) (CellThen cell (LeadsFrom all made.starts)) (λ t. (first t).0) text (rest.0 leads),
      λ reads. rest.1 (cells_map cells (CellThen cell (LeadsFrom all made.starts)) (LeadsFrom all next.starts) (λ t. (first t).1) text reads),
    )

-- ---- new start states

pub starts_heads : (made : Made) (cells : List Cell) → (with_cells made cells).starts ≡ new_starts made.starts made.count cells
starts_heads made [] = refl
starts_heads made (One test ∷ cells) = starts_heads (with_cell made (One test)) cells
starts_heads made (Many test ∷ cells) = starts_heads (with_cell made (Many test)) cells

-- If a cell reads exactly one character, the earlier starts are no starts any more.
pub heads_alone : (starts others : List ℕ) (count : ℕ) (cells : List Cell) → has_one cells ≡ true → new_starts starts count cells ≡ new_starts others count cells
heads_alone starts others count [] one = absurd cc
heads_alone starts others count (One test ∷ cells) one = refl
heads_alone starts others count (Many test ∷ cells) one = heads_alone (starts ++ count ∷ []) (others ++ count ∷ []) (count + 1) cells one
