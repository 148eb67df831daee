-- The texts that the starts of an automaton read after copies of cells.
use Rattle.std.proofs.Common.{◌≡◌, ℕ, zero, suc, ◌≤◌, Bool, true, false, List, [], ◌++◌, length, refl, sym, subst, ap, ◌∙◌, ◌⊎◌, inl, inr, ◌↔◌, arith}
use Rattle.std.specs.Prelude.{◌&&◌, if◌then◌else◌}
use Rattle.urlpattern_compare.specs.Automata.{LeadsFrom}
use Rattle.urlpattern_compare.specs.Cells.{has_one}
use Rattle.urlpattern_compare.specs.Making.{Made, new_starts, repeats, with_cells, with_copies, with_missing, with_repeat_starts}
use Rattle.urlpattern_compare.specs.declared.parts_automaton.Edge.{Edge}
use Rattle.urlpattern_compare.specs.declared.cells.Cell.{Cell}
use Rattle.urlpattern_compare.proofs.Blocks.{IsMade, cells_made, cells_read, cells_within, from_append, from_none, heads_alone, starts_heads}
use Rattle.urlpattern_compare.proofs.CellTexts.{CellsThen, Texts, TimesThen, cells_map, cells_mono_below, cells_some}
use Rattle.urlpattern_compare.proofs.MadeStates.{IsPartOf}
use Rattle.urlpattern_meaning.specs.PartMeaning.{Allows}
use Rattle.urlpattern_syntax.specs.declared.parser.PartModifier.{PartModifier}

-- ---- loops of texts

-- What may be read again after the cells, or be left, is read a number of times.
loop_times : (cells : List Cell) (X Y Z : Texts) → has_one cells ≡ true → ((t : List ℕ) → Y t → X t ⊎ Z t) → ((t : List ℕ) → Z t → CellsThen cells Y t) →
    (limit : ℕ) (text : List ℕ) → length text ≤ limit → Y text → (n : ℕ) × TimesThen cells n X text
loop_times cells X Y Z one split turn zero text le y = elim (split text y) [
  | inl x ↦ (0, x)
  | inr z ↦
      let found = cells_some cells (λ n. TimesThen cells n X) text
      (cells_mono_below cells Y (λ t. (n : ℕ) × TimesThen cells n X t) (length text) one (λ t lt. absurd (omega arith)) text (omega arith) (turn text z)) in
      (suc found.0, found.1)
]
loop_times cells X Y Z one split turn (suc limit) text le y = elim (split text y) [
  | inl x ↦ (0, x)
  | inr z ↦
      let found = cells_some cells (λ n. TimesThen cells n X) text
      (cells_mono_below cells Y (λ t. (n : ℕ) × TimesThen cells n X t) (length text) one (λ t lt. loop_times cells X Y Z one split turn limit t (omega arith)) text (omega arith) (turn text z)) in
      (suc found.0, found.1)
]

times_loop : (cells : List Cell) (X Y Z : Texts) → ((t : List ℕ) → (X t ⊎ Z t) → Y t) → ((t : List ℕ) → CellsThen cells Y t → Z t) →
    (n : ℕ) (text : List ℕ) → TimesThen cells n X text → Y text
times_loop cells X Y Z join turn zero text is = join text (inl is)
times_loop cells X Y Z join turn (suc n) text is = join text (inr (turn text (cells_map cells (TimesThen cells n X) Y (times_loop cells X Y Z join turn n) text is)))

-- ---- one copy, or repeated copies

-- Any number of copies reads no more than one copy.
abbrev pub Absorbs : List Cell → Texts → Type 0
Absorbs cells Rest = has_one cells ≡ false → (n : ℕ) (text : List ℕ) → TimesThen cells n Rest text → CellsThen cells Rest text

-- An automaton in which the copy may repeat is well made.
again_made : (made : Made) (again : Bool) (cells : List Cell) → IsMade made → IsMade (with_repeat_starts made again cells)
again_made made again cells is = record { below = is.below; some = is.some }

unlooped : (all : List Edge) (made : Made) (again : Bool) (cells : List Cell) → (again && has_one cells) ≡ false → (text : List ℕ) →
    LeadsFrom all (with_repeat_starts made again cells).starts text ↔ LeadsFrom all made.starts text
unlooped all made again cells e text =
    let both = from_append all made.starts [] text in
    let same : (with_repeat_starts made again cells).starts ≡ made.starts ++ [] = ap (λ b. made.starts ++ (if b then new_starts [] made.count cells else [])) e in (
      λ leads. elim (both.0 (subst (λ l. LeadsFrom all l text) same leads)) [
        | inl before ↦ before
        | inr none ↦ absurd (from_none all text none)
      ],
      λ leads. subst (λ l. LeadsFrom all l text) (sym same) (both.1 (inl leads)),
    )

copy_once : (all : List Edge) (made : Made) (again : Bool) (cells : List Cell) → IsMade made → IsPartOf all (with_cells (with_repeat_starts made again cells) cells) → (again && has_one cells) ≡ false →
    (text : List ℕ) → LeadsFrom all (with_cells (with_repeat_starts made again cells) cells).starts text ↔ CellsThen cells (LeadsFrom all made.starts) text
copy_once all made again cells is part e text =
    let outer = with_repeat_starts made again cells in
    let reads = cells_read all outer cells (again_made made again cells is) part text in (
      λ leads. cells_map cells (LeadsFrom all outer.starts) (LeadsFrom all made.starts) (λ t. (unlooped all made again cells e t).0) text (reads.0 leads),
      λ takes. reads.1 (cells_map cells (LeadsFrom all made.starts) (LeadsFrom all outer.starts) (λ t. (unlooped all made again cells e t).1) text takes),
    )

looped : (all : List Edge) (made : Made) (cells : List Cell) → has_one cells ≡ true → (text : List ℕ) →
    LeadsFrom all (with_repeat_starts made true cells).starts text ↔ (LeadsFrom all made.starts text ⊎ LeadsFrom all (with_cells (with_repeat_starts made true cells) cells).starts text)
looped all made cells one text =
    let outer = with_repeat_starts made true cells in
    let inner = with_cells outer cells in
    let same : outer.starts ≡ made.starts ++ inner.starts =
    ap (λ b. made.starts ++ (if b then new_starts [] made.count cells else [])) one
    ∙ ap (λ l. made.starts ++ l) (heads_alone [] outer.starts made.count cells one ∙ sym (starts_heads outer cells)) in
    let both = from_append all made.starts inner.starts text in
    (λ leads. both.0 (subst (λ l. LeadsFrom all l text) same leads), λ either. subst (λ l. LeadsFrom all l text) (sym same) (both.1 either))

copy_often : (all : List Edge) (made : Made) (cells : List Cell) → IsMade made → IsPartOf all (with_cells (with_repeat_starts made true cells) cells) → has_one cells ≡ true →
    (text : List ℕ) → LeadsFrom all (with_cells (with_repeat_starts made true cells) cells).starts text ↔ ((n : ℕ) × TimesThen cells (suc n) (LeadsFrom all made.starts) text)
copy_often all made cells is part one text =
    let outer = with_repeat_starts made true cells in
    let inner = with_cells outer cells in
    let X = LeadsFrom all made.starts in
    let Y = LeadsFrom all outer.starts in
    let Z = LeadsFrom all inner.starts in
    let reads = cells_read all outer cells (again_made made true cells is) part in
    let split = looped all made cells one in (
      λ z. cells_some cells (λ n. TimesThen cells n X) text
          (cells_map cells Y (λ t. (n : ℕ) × TimesThen cells n X t)
          (λ t. loop_times cells X Y Z one (λ u. (split u).0) (λ u. (reads u).0) (length t) t (omega arith)) text ((reads text).0 z)),
      λ (n, is). (reads text).1 (cells_map cells (TimesThen cells n X) Y (times_loop cells X Y Z (λ u. (split u).1) (λ u. (reads u).1) n) text is),
    )

-- ---- by the modifier

-- As many copies as the modifier permits.
abbrev pub CopiesThen : PartModifier → List Cell → Texts → List ℕ → Type 0
CopiesThen modifier cells Rest text = (n : ℕ) × Allows modifier n × TimesThen cells n Rest text

at_least_one : (all : List Edge) (made : Made) (cells : List Cell) → IsMade made → IsPartOf all (with_cells (with_repeat_starts made true cells) cells) → Absorbs cells (LeadsFrom all made.starts) →
    (b : Bool) → has_one cells ≡ b → (text : List ℕ) →
    LeadsFrom all (with_cells (with_repeat_starts made true cells) cells).starts text ↔ ((n : ℕ) × TimesThen cells (suc n) (LeadsFrom all made.starts) text)
at_least_one all made cells is part absorbs true e text = copy_often all made cells is part e text
at_least_one all made cells is part absorbs false e text =
    let once = copy_once all made true cells is part e text in
    (λ leads. (0, once.0 leads), λ (n, takes). once.1 (absorbs e (suc n) text takes))

not_missing : (all : List Edge) (made inner : Made) (text : List ℕ) → LeadsFrom all (with_missing made inner false).starts text ↔ LeadsFrom all inner.starts text
not_missing all made inner text =
    let both = from_append all inner.starts [] text in (
      λ leads. elim (both.0 leads) [ inl before ↦ before | inr none ↦ absurd (from_none all text none) ],
      λ leads. both.1 (inl leads),
    )

-- Without the copy, or, if the copy may not be left out, where it reads the same.
missing_or : (all : List Edge) (made inner : Made) (missing : Bool) (text : List ℕ) → (missing ≡ false → LeadsFrom all made.starts text → LeadsFrom all inner.starts text) →
    LeadsFrom all (with_missing made inner missing).starts text ↔ (LeadsFrom all inner.starts text ⊎ LeadsFrom all made.starts text)
missing_or all made inner true text kept = from_append all inner.starts made.starts text
missing_or all made inner false text kept =
    let out = not_missing all made inner text in
    (λ leads. inl (out.0 leads), λ either. elim either [ inl some ↦ out.1 some | inr none ↦ out.1 (kept refl none) ])

at_most_one : (cells : List Cell) (Rest : Texts) (n : ℕ) (text : List ℕ) → n ≤ 1 → TimesThen cells n Rest text → CellsThen cells Rest text ⊎ Rest text
at_most_one cells Rest zero text le is = inr is
at_most_one cells Rest (suc zero) text le is = inl is
at_most_one cells Rest (suc (suc n)) text le is = absurd (omega arith)

some_or_none : (cells : List Cell) (Rest : Texts) (n : ℕ) (text : List ℕ) → TimesThen cells n Rest text → ((m : ℕ) × TimesThen cells (suc m) Rest text) ⊎ Rest text
some_or_none cells Rest zero text is = inr is
some_or_none cells Rest (suc n) text is = inl (n, is)

some_of : (cells : List Cell) (Rest : Texts) (n : ℕ) (text : List ℕ) → 1 ≤ n → TimesThen cells n Rest text → (m : ℕ) × TimesThen cells (suc m) Rest text
some_of cells Rest zero text le is = absurd (omega arith)
some_of cells Rest (suc n) text le is = (n, is)

pub copies_part : (all : List Edge) (made : Made) (modifier : PartModifier) (cells : List Cell) → IsPartOf all (with_copies made modifier cells) →
    IsPartOf all (with_cells (with_repeat_starts made (repeats modifier) cells) cells)
copies_part all made modifier cells part = record { kept = part.kept; only = part.only; below = part.below; some = part.some }

pub copies_made : (made : Made) (modifier : PartModifier) (cells : List Cell) → IsMade made → IsMade (with_copies made modifier cells)
copies_made made modifier cells is =
    let inner = cells_made (with_repeat_starts made (repeats modifier) cells) cells (again_made made (repeats modifier) cells is) in
    record { below = inner.below; some = inner.some }

-- What was made before the copies is a part of all edges.
pub copies_before : (all : List Edge) (made : Made) (modifier : PartModifier) (cells : List Cell) → IsMade made → IsPartOf all (with_copies made modifier cells) → IsPartOf all made
copies_before all made modifier cells is part =
    let outer = cells_within all (with_repeat_starts made (repeats modifier) cells) cells (again_made made (repeats modifier) cells is) (copies_part all made modifier cells part) in
    record { kept = outer.kept; only = outer.only; below = outer.below; some = outer.some }

pub copies_read : (all : List Edge) (made : Made) (modifier : PartModifier) (cells : List Cell) → IsMade made → IsPartOf all (with_copies made modifier cells) → Absorbs cells (LeadsFrom all made.starts) →
    (text : List ℕ) → LeadsFrom all (with_copies made modifier cells).starts text ↔ CopiesThen modifier cells (LeadsFrom all made.starts) text
copies_read all made PartModifier.None cells is part absorbs text =
    let inner = with_cells (with_repeat_starts made false cells) cells in
    let out = not_missing all made inner text in
    let once = copy_once all made false cells is (copies_part all made PartModifier.None cells part) refl text in (
      λ leads. (1, refl, once.0 (out.0 leads)),
      λ (n, e, takes). out.1 (once.1 (subst (λ m. TimesThen cells m (LeadsFrom all made.starts) text) e takes)),
    )
copies_read all made PartModifier.Optional cells is part absorbs text =
    let inner = with_cells (with_repeat_starts made false cells) cells in
    let once = copy_once all made false cells is (copies_part all made PartModifier.Optional cells part) refl text in
    let out = missing_or all made inner (has_one cells) text (λ e none. once.1 (absorbs e 0 text none)) in (
      λ leads. elim (out.0 leads) [ inl some ↦ (1, omega arith, once.0 some) | inr none ↦ (0, omega arith, none) ],
      λ (n, le, takes). elim (at_most_one cells (LeadsFrom all made.starts) n text le takes) [ inl some ↦ out.1 (inl (once.1 some)) | inr none ↦ out.1 (inr none) ],
    )
copies_read all made PartModifier.OneOrMore cells is part absorbs text =
    let inner = with_cells (with_repeat_starts made true cells) cells in
    let out = not_missing all made inner text in
    let often = at_least_one all made cells is (copies_part all made PartModifier.OneOrMore cells part) absorbs (has_one cells) refl text in (
      λ leads. let found = often.0 (out.0 leads) in (suc found.0, omega arith, found.1),
      λ (n, le, takes). out.1 (often.1 (some_of cells (LeadsFrom all made.starts) n text le takes)),
    )
copies_read all made PartModifier.ZeroOrMore cells is part absorbs text =
    let inner = with_cells (with_repeat_starts made true cells) cells in
    let often = at_least_one all made cells is (copies_part all made PartModifier.ZeroOrMore cells part) absorbs (has_one cells) refl text in
    let out = missing_or all made inner (has_one cells) text (λ e none. often.1 (0, absorbs e 0 text none)) in (
      λ leads. elim (out.0 leads) [ inl some ↦ (let found = often.0 some in (suc found.0, tt, found.1)) | inr none ↦ (0, tt, none) ],
      λ (n, any, takes). elim (some_or_none cells (LeadsFrom all made.starts) n text takes) [ inl some ↦ out.1 (inl (often.1 some)) | inr none ↦ out.1 (inr none) ],
    )
