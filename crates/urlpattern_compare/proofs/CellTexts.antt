-- The texts that cells read, followed by other texts.
use Rattle.std.proofs.Common.{◌≡◌, ℕ, zero, suc, ◌<◌, ◌≤◌, true, List, [], ◌∷◌, ◌++◌, length, refl, sym, subst, ap, ◌∙◌, ◌⊎◌, inl, inr, ◌↔◌, arith, ap₂, eqb-true, eq-eqb, reverse}
use Rattle.std.proofs.lemmas.List.{reverse-append}
use Rattle.std.proofs.lemmas.List.Folds.{list_any-append}
use Rattle.std.specs.List.{list_all}
use Rattle.std.specs.Prelude.{◌&&◌, ◌||◌, IsTrue}
use Rattle.urlpattern_compare.specs.Automata.{passes}
use Rattle.urlpattern_compare.specs.Cells.{has_one, is_one, text_cells}
use Rattle.urlpattern_compare.specs.declared.parts_automaton.Test.{Test}
use Rattle.urlpattern_compare.specs.declared.cells.Cell.{Cell}
use Rattle.urlpattern_compare.specs.declared.cells.Cell.TheVariants.{One, Many}
use Rattle.urlpattern_compare.proofs.StateSets.{both}
use Rattle.urlpattern_compare.proofs.CharacterClasses.{or_true}

abbrev pub Texts : Type 1
Texts = List ℕ → Type 0

-- Any number of characters that pass, followed by one of the texts.
abbrev pub RunThen : Test → Texts → List ℕ → Type 0
RunThen test Rest [] = Rest []
RunThen test Rest (c ∷ text) = Rest (c ∷ text) ⊎ (IsTrue (passes test c) × RunThen test Rest text)

-- A character that passes, followed by one of the texts.
abbrev pub OneThen : Test → Texts → List ℕ → Type 0
OneThen test Rest [] = ⊥
OneThen test Rest (c ∷ text) = IsTrue (passes test c) × Rest text

abbrev pub CellThen : Cell → Texts → List ℕ → Type 0
CellThen (One test) Rest text = OneThen test Rest text
CellThen (Many test) Rest text = RunThen test Rest text

-- What the cells read, which are in reverse order, followed by one of the texts.
abbrev pub CellsThen : List Cell → Texts → List ℕ → Type 0
CellsThen [] Rest text = Rest text
CellsThen (cell ∷ cells) Rest text = CellsThen cells (CellThen cell Rest) text

-- What n copies of the cells read, followed by one of the texts.
abbrev pub TimesThen : List Cell → ℕ → Texts → List ℕ → Type 0
TimesThen cells zero Rest text = Rest text
TimesThen cells (suc n) Rest text = CellsThen cells (TimesThen cells n Rest) text

-- ---- other texts that follow

run_mono : (test : Test) (Rest Other : Texts) (n : ℕ) → ((text : List ℕ) → length text ≤ n → Rest text → Other text) → (text : List ℕ) → length text ≤ n → RunThen test Rest text → RunThen test Other text
run_mono test Rest Other n more [] le is = more [] le is
run_mono test Rest Other n more (c ∷ text) le is = elim is [
  | inl here ↦ inl (more (c ∷ text) le here)
  | inr later ↦ inr (later.0, run_mono test Rest Other n more text (omega arith) later.1)
]

one_mono : (test : Test) (Rest Other : Texts) (n : ℕ) → ((text : List ℕ) → length text < n → Rest text → Other text) → (text : List ℕ) → length text ≤ n → OneThen test Rest text → OneThen test Other text
one_mono test Rest Other n more [] le is = is
one_mono test Rest Other n more (c ∷ text) le is = (is.0, more text (omega arith) is.1)

cell_mono : (cell : Cell) (Rest Other : Texts) (n : ℕ) → ((text : List ℕ) → length text ≤ n → Rest text → Other text) → (text : List ℕ) → length text ≤ n → CellThen cell Rest text → CellThen cell Other text
cell_mono (One test) Rest Other n more text le is = one_mono test Rest Other n (λ t lt. more t (omega arith)) text le is
cell_mono (Many test) Rest Other n more text le is = run_mono test Rest Other n more text le is

-- Cells, followed by other texts of at most this length.
pub cells_mono : (cells : List Cell) (Rest Other : Texts) (n : ℕ) → ((text : List ℕ) → length text ≤ n → Rest text → Other text) → (text : List ℕ) → length text ≤ n →
    CellsThen cells Rest text → CellsThen cells Other text
cells_mono [] Rest Other n more text le is = more text le is
cells_mono (cell ∷ cells) Rest Other n more text le is = cells_mono cells (CellThen cell Rest) (CellThen cell Other) n (cell_mono cell Rest Other n more) text le is

-- Cells, one of which reads exactly one character, followed by other texts of less than this
-- length.
pub cells_mono_below : (cells : List Cell) (Rest Other : Texts) (n : ℕ) → has_one cells ≡ true → ((text : List ℕ) → length text < n → Rest text → Other text) → (text : List ℕ) → length text ≤ n →
    CellsThen cells Rest text → CellsThen cells Other text
cells_mono_below [] Rest Other n one more text le is = absurd cc
cells_mono_below (One test ∷ cells) Rest Other n one more text le is =
    cells_mono cells (OneThen test Rest) (OneThen test Other) n (one_mono test Rest Other n more) text le is
cells_mono_below (Many test ∷ cells) Rest Other n one more text le is =
    cells_mono_below cells (RunThen test Rest) (RunThen test Other) n one
    (λ t lt. run_mono test Rest Other (length t) (λ u shorter. more u (omega arith)) t (omega arith)) text le is

pub cells_map : (cells : List Cell) (Rest Other : Texts) → ((text : List ℕ) → Rest text → Other text) → (text : List ℕ) → CellsThen cells Rest text → CellsThen cells Other text
cells_map cells Rest Other more text is = cells_mono cells Rest Other (length text) (λ t le. more t) text (omega arith) is

pub times_map : (cells : List Cell) (n : ℕ) (Rest Other : Texts) → ((text : List ℕ) → Rest text → Other text) → (text : List ℕ) → TimesThen cells n Rest text → TimesThen cells n Other text
times_map cells zero Rest Other more text is = more text is
times_map cells (suc n) Rest Other more text is = cells_map cells (TimesThen cells n Rest) (TimesThen cells n Other) (times_map cells n Rest Other more) text is

-- ---- cells one after the other

pub append_then : (cells others : List Cell) (Rest : Texts) (text : List ℕ) → CellsThen (cells ++ others) Rest text ↔ CellsThen others (CellsThen cells Rest) text
append_then [] others Rest text = (λ is. is, λ is. is)
append_then (cell ∷ cells) others Rest text = append_then cells others (CellThen cell Rest) text

-- What the cells read, in order, followed by one of the texts.
abbrev pub InOrder : List Cell → Texts → List ℕ → Type 0
InOrder [] Rest text = Rest text
InOrder (cell ∷ cells) Rest text = CellThen cell (InOrder cells Rest) text

cell_map : (cell : Cell) (Rest Other : Texts) → ((text : List ℕ) → Rest text → Other text) → (text : List ℕ) → CellThen cell Rest text → CellThen cell Other text
cell_map cell Rest Other more text is = cell_mono cell Rest Other (length text) (λ t le. more t) text (omega arith) is

pub order_append : (cells others : List Cell) (Rest : Texts) (text : List ℕ) → InOrder (cells ++ others) Rest text ↔ InOrder cells (InOrder others Rest) text
order_append [] others Rest text = (λ is. is, λ is. is)
order_append (cell ∷ cells) others Rest text = (
  cell_map cell (InOrder (cells ++ others) Rest) (InOrder cells (InOrder others Rest)) (λ t. (order_append cells others Rest t).0) text,
  cell_map cell (InOrder cells (InOrder others Rest)) (InOrder (cells ++ others) Rest) (λ t. (order_append cells others Rest t).1) text,
)

-- ---- texts

-- The cells of a text read the text.
pub text_then : (front : List ℕ) (Rest : Texts) (text : List ℕ) → InOrder (text_cells front) Rest text ↔ ((rest : List ℕ) × (text ≡ front ++ rest) × Rest rest)
text_then [] Rest text = (λ is. (text, refl, is), λ (rest, e, is). subst Rest (sym e) is)
text_then (c ∷ front) Rest [] = (λ is. absurd is, λ (rest, e, is). absurd cc)
text_then (c ∷ front) Rest (d ∷ text) =
    let same = text_then front Rest text in (
      λ (passed, is). let (rest, e, after) = same.0 is in (rest, ap₂ (λ (x : ℕ) (l : List ℕ). x ∷ l) (eqb-true d c passed) e, after),
      λ (rest, e, is). let head : d ≡ c = cc in let tail : text ≡ front ++ rest = cc in (eq-eqb d c head, same.1 (rest, tail, is)),
    )

-- A run reads characters that pass.
pub run_pieces : (test : Test) (Rest : Texts) (text : List ℕ) → RunThen test Rest text → (piece rest : List ℕ) × (text ≡ piece ++ rest) × IsTrue (list_all (passes test) piece) × Rest rest
run_pieces test Rest [] is = ([], [], refl, refl, is)
run_pieces test Rest (c ∷ text) is = elim is [
  | inl here ↦ ([], c ∷ text, refl, refl, here)
  | inr later ↦
      let (piece, rest, e, all, after) = run_pieces test Rest text later.1 in
      (c ∷ piece, rest, ap (λ (l : List ℕ). c ∷ l) e, ap (λ b. b && list_all (passes test) piece) later.0 ∙ all, after)
]

pub pieces_run : (test : Test) (Rest : Texts) (text piece rest : List ℕ) → text ≡ piece ++ rest → IsTrue (list_all (passes test) piece) → Rest rest → RunThen test Rest text
pieces_run test Rest [] [] rest e all is = subst Rest (sym e) is
pieces_run test Rest [] (x ∷ piece) rest e all is = absurd cc
pieces_run test Rest (c ∷ text) [] rest e all is = inl (subst Rest (sym e) is)
pieces_run test Rest (c ∷ text) (x ∷ piece) rest e all is =
    let two = both (passes test x) (list_all (passes test) piece) all in
    let same : x ≡ c = cc in
    let tail : text ≡ piece ++ rest = cc in
    inr (subst (λ y. IsTrue (passes test y)) same two.0, pieces_run test Rest text piece rest tail two.1 is)

-- ---- some texts of many

cell_some : (cell : Cell) (Rest : ℕ → Texts) (text : List ℕ) → CellThen cell (λ t. (n : ℕ) × Rest n t) text → (n : ℕ) × CellThen cell (Rest n) text
cell_some (One test) Rest [] is = absurd is
cell_some (One test) Rest (c ∷ text) (passed, (n, is)) = (n, (passed, is))
cell_some (Many test) Rest [] is = is
cell_some (Many test) Rest (c ∷ text) is = elim is [
  | inl here ↦ (here.0, inl here.1)
  | inr later ↦ let found = cell_some (Many test) Rest text later.1 in (found.0, inr (later.0, found.1))
]

pub cells_some : (cells : List Cell) (Rest : ℕ → Texts) (text : List ℕ) → CellsThen cells (λ t. (n : ℕ) × Rest n t) text → (n : ℕ) × CellsThen cells (Rest n) text
cells_some [] Rest text is = is
cells_some (cell ∷ cells) Rest text is =
    cells_some cells (λ n. CellThen cell (Rest n)) text (cells_map cells (CellThen cell (λ t. (n : ℕ) × Rest n t)) (λ t. (n : ℕ) × CellThen cell (Rest n) t) (cell_some cell Rest) text is)

-- ---- cells in reverse order

pub reverse_cons : (cell : Cell) (cells : List Cell) → reverse (cell ∷ cells) ≡ reverse cells ++ cell ∷ []
reverse_cons cell cells = reverse-append (cell ∷ []) cells

pub in_order : (cells : List Cell) (Rest : Texts) (text : List ℕ) → CellsThen (reverse cells) Rest text ↔ InOrder cells Rest text
in_order [] Rest text = (λ is. is, λ is. is)
in_order (cell ∷ cells) Rest text =
    let both = append_then (reverse cells) (cell ∷ []) Rest text in
    let e = reverse_cons cell cells in (
      λ is. cell_map cell (CellsThen (reverse cells) Rest) (InOrder cells Rest) (λ t. (in_order cells Rest t).0) text (both.0 (subst (λ l. CellsThen l Rest text) e is)),
      λ is. subst (λ l. CellsThen l Rest text) (sym e) (both.1 (cell_map cell (InOrder cells Rest) (CellsThen (reverse cells) Rest) (λ t. (in_order cells Rest t).1) text is)),
    )

pub one_reversed : (cells : List Cell) → has_one cells ≡ true → has_one (reverse cells) ≡ true
one_reversed [] one = absurd cc
one_reversed (One test ∷ cells) one =
    ap has_one (reverse_cons (One test) cells) ∙ list_any-append is_one (reverse cells) (One test ∷ []) ∙ or_true (has_one (reverse cells))
one_reversed (Many test ∷ cells) one =
    ap has_one (reverse_cons (Many test) cells) ∙ list_any-append is_one (reverse cells) (Many test ∷ []) ∙ ap (λ b. b || has_one (Many test ∷ [])) (one_reversed cells one)

pub one_after : (cells : List Cell) (test : Test) (others : List Cell) → has_one (cells ++ One test ∷ others) ≡ true
one_after [] test others = refl
one_after (One other ∷ cells) test others = refl
one_after (Many other ∷ cells) test others = one_after cells test others

-- ---- runs

pub run_start : (test : Test) (Rest : Texts) (text : List ℕ) → Rest text → RunThen test Rest text
run_start test Rest [] is = is
run_start test Rest (c ∷ text) is = inl is

pub run_run : (test : Test) (Rest : Texts) (text : List ℕ) → RunThen test (RunThen test Rest) text → RunThen test Rest text
run_run test Rest [] is = is
run_run test Rest (c ∷ text) is = elim is [
  | inl here ↦ here
  | inr later ↦ inr (later.0, run_run test Rest text later.1)
]

-- Any number of runs is a run.
pub times_run : (test : Test) (n : ℕ) (Rest : Texts) (text : List ℕ) → TimesThen (Many test ∷ []) n Rest text → RunThen test Rest text
times_run test zero Rest text is = run_start test Rest text is
times_run test (suc n) Rest text is =
    run_run test Rest text (cell_map (Many test) (TimesThen (Many test ∷ []) n Rest) (RunThen test Rest) (times_run test n Rest) text is)

pub times_none : (n : ℕ) (Rest : Texts) (text : List ℕ) → TimesThen [] n Rest text → Rest text
times_none zero Rest text is = is
times_none (suc n) Rest text is = times_none n Rest text is
