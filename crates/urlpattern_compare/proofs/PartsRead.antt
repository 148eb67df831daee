-- The automaton of parts accepts the texts that the parts mean.
use Rattle.std.proofs.Common.{◌≡◌, ◌≢◌, ℕ, ◌+◌, ◌<◌, ◌≤◌, Bool, true, false, List, [], ◌∷◌, ◌++◌, length, Option, Some, None, refl, sym, subst, ap, ◌∙◌, ◌⊎◌, inl, inr, ◌↔◌, arith, append_assoc, reverse, get_or, map}
use Rattle.std.proofs.lemmas.Bool.{and_from, and_parts}
use Rattle.std.proofs.lemmas.List.{length-reverse}
use Rattle.std.proofs.lemmas.List.Elements.{All-cons, All-head, All-nil, All-tail, Contains-append_cases, Contains-get_or}
use Rattle.std.specs.Char.{to_ascii_lowercase}
use Rattle.std.specs.List.{All, Contains}
use Rattle.std.specs.Prelude.{◌&&◌, if◌then◌else◌}
use lib.Utf8.{low_scalar, scalar, scalars}
use Rattle.urlpattern_compare.specs.Answers.{IsByCase}
use Rattle.urlpattern_compare.specs.Automata.{AcceptsText, IsWithin, Leads, LeadsFrom}
use Rattle.urlpattern_compare.specs.Cells.{cells_of, has_one}
use Rattle.urlpattern_compare.specs.Making.{IsMadeOf, IsShaped, Made, ShapedPart, folded_shaped, made, made_view, may_miss, new_starts, repeats, shape_edges, shape_size, unshaped, with_cell, with_cells, with_copies, with_part, with_repeat_starts}
use Rattle.urlpattern_compare.specs.MeantTexts.{MeansText, folded_options, folded_part, folded_parts}
use Rattle.urlpattern_compare.specs.declared.parts_automaton.PartsAutomaton.{PartsAutomaton}
use Rattle.urlpattern_compare.specs.declared.parts_automaton.Edge.{Edge}
use Rattle.urlpattern_compare.specs.declared.cells.Cell.{Cell}
use Rattle.urlpattern_compare.specs.declared.cells.Cell.TheVariants.{One, Many}
use Rattle.urlpattern_compare.proofs.Blocks.{IsMade, from_one}
use Rattle.urlpattern_compare.proofs.ComparedCopies.{copies_before, copies_made, copies_read}
use Rattle.urlpattern_compare.proofs.CellTexts.{times_map}
use Rattle.urlpattern_compare.proofs.KeptCase.{part_kept}
use Rattle.urlpattern_compare.proofs.MadeStates.{IsPartOf, cell_count, cell_edges, edges_to_has, targets, test_of}
use Rattle.urlpattern_compare.proofs.PartTexts.{PartsThen, absorbs, parts_then}
use Rattle.urlpattern_compare.proofs.ShapeStates.{begins_below, shape_before, shape_below, shape_made, shape_read}
use Rattle.urlpattern_compare.proofs.StateSets.{contains_cons}
use Rattle.urlpattern_expressions.specs.MatchedPartTexts.{PartsMatch}
use Rattle.urlpattern_expressions.specs.Shapes.{Shape}
use Rattle.urlpattern_meaning.proofs.FoldedTrees.{moved_or_same}
use Rattle.urlpattern_meaning.specs.Matching.{folded_character}
use Rattle.urlpattern_syntax.specs.{Options.OptionsView, Parts.PartView}
use Rattle.urlpattern_syntax.specs.declared.parser.PartModifier.{PartModifier}
use Rattle.urlpattern_syntax.specs.declared.parser.PartType.{PartType}

-- ---- accepted texts

part_made : (options : OptionsView) (made : Made) (part : PartView) (shape : Option Shape) → IsMade made → IsMade (with_part options made part shape)
part_made options made part None is = copies_made made part.modifier (reverse (cells_of options part.kind part)) is
part_made options made part (Some shape) is = shape_made made shape is

pub parts_made : (options : OptionsView) (parts : List ShapedPart) → IsMade (made options parts)
parts_made options [] = record { below = λ edge (k, lt, e). absurd (omega arith); some = omega arith }
parts_made options (part ∷ parts) = part_made options (made options parts) part.0 part.1 (parts_made options parts)

end_read : (all : List Edge) (options : OptionsView) → IsPartOf all (made options []) → (text : List ℕ) → Leads all 0 text ↔ (text ≡ [])
end_read all options part [] = (λ leads. refl, λ e. refl)
end_read all options part (c ∷ text) = (
  λ (edge, has, from, passed, leads). let (k, lt, e) = part.only edge (omega arith) has in absurd (omega arith),
  λ e. absurd cc,
)

pub parts_read : (all : List Edge) (options : OptionsView) (parts : List ShapedPart) → IsPartOf all (made options parts) → (text : List ℕ) →
    LeadsFrom all (made options parts).starts text ↔ PartsThen options parts text
parts_read all options [] part text =
    let one = from_one all 0 text in
    let end = end_read all options part text in
    (λ leads. end.0 (one.0 leads), λ e. one.1 (end.1 e))
parts_read all options ((first, None) ∷ parts) part text =
    let cells = reverse (cells_of options first.kind first) in
    let rest = made options parts in
    let before = copies_before all rest first.modifier cells (parts_made options parts) part in
    let reads = copies_read all rest first.modifier cells (parts_made options parts) part (absorbs options first (LeadsFrom all rest.starts)) text in
    let same = parts_read all options parts before in (
      λ leads. let (n, allowed, times) = reads.0 leads in (n, allowed, times_map cells n (LeadsFrom all rest.starts) (PartsThen options parts) (λ t. (same t).0) text times),
      λ (n, allowed, times). reads.1 (n, allowed, times_map cells n (PartsThen options parts) (LeadsFrom all rest.starts) (λ t. (same t).1) text times),
    )
parts_read all options ((first, Some shape) ∷ parts) part text =
    let rest = made options parts in
    let before = shape_before all rest shape (parts_made options parts) part in
    let reads = shape_read all rest shape (parts_made options parts) part text in
    let same = parts_read all options parts before in (
      λ leads. let (front, back, cut, takes, more) = reads.0 leads in (front, back, cut, takes, (same back).0 more),
      λ (front, back, cut, takes, more). reads.1 (front, back, cut, takes, (same back).1 more),
    )

-- The automaton of parts accepts exactly the texts of characters that the parts match.
pub parts_accepted : (options : OptionsView) (parts : List ShapedPart) (automaton : PartsAutomaton) → All (λ (part : ShapedPart). IsShaped part.0.kind part.0 part.1) parts → made_view automaton ≡ made options parts →
    (text : List ℕ) → scalars text ≡ true → LeadsFrom automaton.edges.items automaton.starts.items text ↔ PartsMatch options (map (λ (part : ShapedPart). part.0) parts) text
parts_accepted options parts automaton shaped same text good =
    let all = (made options parts).edges in
    let is = parts_made options parts in
    let part : IsPartOf all (made options parts) = record { kept = λ edge has. has; only = λ edge lt has. has; below = is.below; some = is.some } in
    let reads = parts_read all options parts part text in
    let means = parts_then options parts shaped text good in
    let both : LeadsFrom automaton.edges.items automaton.starts.items text ≡ LeadsFrom all (made options parts).starts text = ap (λ (it : Made). LeadsFrom it.edges it.starts text) same in (
      λ accepts. means.0 (reads.0 (subst (λ (T : Type 0). T) both accepts)),
      λ meant. subst (λ (T : Type 0). T) (sym both) (reads.1 (means.1 meant)),
    )

-- ---- with case ignored or kept

-- Folding leaves custom parts as they are, if case is kept.
shaped_folded : (ignore_case : Bool) (kind : PartType) (part : PartView) (shape : Option Shape) → (ignore_case ≡ false) ⊎ (kind ≢ PartType.Regexp) → part.kind ≡ kind → IsShaped kind part shape → IsShaped kind (folded_part ignore_case part) shape
shaped_folded ignore_case PartType.Regexp part shape (inl kept) e is = subst (λ (it : PartView). IsShaped PartType.Regexp it shape) (sym (ap (λ b. folded_part b part) kept ∙ part_kept part)) is
shaped_folded ignore_case PartType.Regexp part shape (inr other) e is = absurd (other refl)
shaped_folded ignore_case PartType.FixedText part shape by e is = is
shaped_folded ignore_case PartType.SegmentWildcard part shape by e is = is
shaped_folded ignore_case PartType.FullWildcard part shape by e is = is

all_folded : (options : OptionsView) (parts : List ShapedPart) → IsByCase options (map (λ (part : ShapedPart). part.0) parts) → All (λ (part : ShapedPart). IsShaped part.0.kind part.0 part.1) parts →
    All (λ (part : ShapedPart). IsShaped part.0.kind part.0 part.1) (folded_shaped options parts)
all_folded options [] by are = All-nil (λ (part : ShapedPart). IsShaped part.0.kind part.0 part.1)
all_folded options (part ∷ parts) by are =
    let Is : ShapedPart → Type 0 = λ it. IsShaped it.0.kind it.0 it.1 in
    All-cons Is (folded_part options.ignore_case part.0, part.1) (folded_shaped options parts)
    (shaped_folded options.ignore_case part.0.kind part.0 part.1 (first_by by) refl (All-head Is part parts are))
    (all_folded options parts (more_by by) (All-tail Is part parts are))
  where
    first_by : IsByCase options (map (λ (it : ShapedPart). it.0) (part ∷ parts)) → (options.ignore_case ≡ false) ⊎ (part.0.kind ≢ PartType.Regexp)
    first_by (inl kept) = inl kept
    first_by (inr generated) = inr (All-head (λ (it : PartView). it.kind ≢ PartType.Regexp) part.0 (map (λ (it : ShapedPart). it.0) parts) generated)

    more_by : IsByCase options (map (λ (it : ShapedPart). it.0) (part ∷ parts)) → IsByCase options (map (λ (it : ShapedPart). it.0) parts)
    more_by (inl kept) = inl kept
    more_by (inr generated) = inr (All-tail (λ (it : PartView). it.kind ≢ PartType.Regexp) part.0 (map (λ (it : ShapedPart). it.0) parts) generated)

views_folded : (options : OptionsView) (parts : List ShapedPart) → map (λ (part : ShapedPart). part.0) (folded_shaped options parts) ≡ folded_parts options (map (λ (part : ShapedPart). part.0) parts)
views_folded options [] = refl
views_folded options (part ∷ parts) = ap (λ (l : List PartView). folded_part options.ignore_case part.0 ∷ l) (views_folded options parts)

-- A text of characters in lower case is a text of characters.
pub scalars_folded : (ignore_case : Bool) (text : List ℕ) → scalars text ≡ true → scalars (map (folded_character ignore_case) text) ≡ true
scalars_folded ignore_case [] good = refl
scalars_folded ignore_case (c ∷ text) good =
    let both = and_parts (scalar c) (scalars text) good in
    and_from (scalar (folded_character ignore_case c)) (scalars (map (folded_character ignore_case) text)) (one_folded ignore_case c both.0) (scalars_folded ignore_case text both.1)
  where
    one_folded : (ignore_case : Bool) (c : ℕ) → scalar c ≡ true → scalar (folded_character ignore_case c) ≡ true
    one_folded true c good = elim (moved_or_same c) [
      | inl (at_least, at_most, moved) ↦ low_scalar (to_ascii_lowercase c) (omega (arith, moved, at_most))
      | inr same ↦ ap scalar same ∙ good
    ]
    one_folded false c good = good

-- The automaton of parts accepts exactly the texts of characters that they mean, with case ignored
-- or kept.
pub meaning_accepted : (options : OptionsView) (parts : List PartView) (automaton : PartsAutomaton) → IsByCase options parts → IsMadeOf options parts automaton → (text : List ℕ) → scalars text ≡ true →
    AcceptsText automaton text ↔ MeansText options parts text
meaning_accepted options parts automaton by is text good =
    let shaped_by = subst (IsByCase options) (sym is.parts_are) by in
    let folded = map (folded_character options.ignore_case) text in
    let here = parts_accepted (folded_options options) (folded_shaped options is.shaped) automaton (all_folded options is.shaped shaped_by is.are_shaped) is.view folded (scalars_folded options.ignore_case text good) in
    let views = views_folded options is.shaped ∙ ap (folded_parts options) is.parts_are in
    let Matches : List PartView → Type 0 = λ l. PartsMatch (folded_options options) l folded in
    let Leads_by : Bool → Type 0 = λ b. LeadsFrom automaton.edges.items automaton.starts.items (map (folded_character b) text) in (
      λ accepts. subst Matches views (here.0 (subst Leads_by is.case accepts)),
      λ meant. subst Leads_by (sym is.case) (here.1 (subst Matches (sym views) meant)),
    )

-- ---- states below their number

record IsBelow (limit : ℕ) (made : Made) : Type 0 where
  edges : (edge : Edge) → Contains made.edges edge → edge.to < limit
  starts : (state : ℕ) → Contains made.starts state → state < limit

with_one : (limit count : ℕ) (starts : List ℕ) → count < limit → ((state : ℕ) → Contains starts state → state < limit) → (state : ℕ) → Contains (starts ++ count ∷ []) state → state < limit
with_one limit count starts lt all state has = elim (Contains-append_cases starts (count ∷ []) state has) [
  | inl before ↦ all state before
  | inr new ↦ elim (contains_cons count state [] new) [
    | inl e ↦ subst (λ s. s < limit) e lt
    | inr (k, none, e) ↦ absurd (omega arith)
  ]
]

targets_below : (limit : ℕ) (made : Made) (cell : Cell) → IsBelow limit made → made.count < limit → (state : ℕ) → Contains (targets made cell) state → state < limit
targets_below limit made (One test) below lt state has = below.starts state has
targets_below limit made (Many test) below lt state has = with_one limit made.count made.starts lt below.starts state has

starts_below : (limit : ℕ) (made : Made) (cell : Cell) → IsBelow limit made → made.count < limit → (state : ℕ) → Contains (with_cell made cell).starts state → state < limit
starts_below limit made (One test) below lt state has = with_one limit made.count [] lt (λ s (k, none, e). absurd (omega arith)) state has
starts_below limit made (Many test) below lt state has = with_one limit made.count made.starts lt below.starts state has

cell_below : (limit : ℕ) (made : Made) (cell : Cell) → IsBelow limit made → made.count < limit → IsBelow limit (with_cell made cell)
cell_below limit made cell below lt = record {
  edges = λ edge has. elim (Contains-append_cases made.edges _ edge (subst (λ l. Contains l edge) (cell_edges made cell) has)) [
    | inl before ↦ below.edges edge before
    | inr new ↦ targets_below limit made cell below lt edge.to (edges_to_has made.count (test_of cell) (targets made cell) edge new).2
  ];
  starts = starts_below limit made cell below lt;
}

pub cells_count : (made : Made) (cells : List Cell) → (with_cells made cells).count ≡ made.count + length cells
cells_count made [] = omega arith
cells_count made (cell ∷ cells) = let e = cells_count (with_cell made cell) cells in let f = cell_count made cell in omega arith

cells_below : (limit : ℕ) (made : Made) (cells : List Cell) → IsBelow limit made → made.count + length cells ≤ limit → IsBelow limit (with_cells made cells)
cells_below limit made [] below le = below
cells_below limit made (cell ∷ cells) below le =
    let f = cell_count made cell in
    cells_below limit (with_cell made cell) cells (cell_below limit made cell below (omega arith)) (omega arith)

heads_below : (limit : ℕ) (starts : List ℕ) (count : ℕ) (cells : List Cell) → ((state : ℕ) → Contains starts state → state < limit) → count + length cells ≤ limit →
    (state : ℕ) → Contains (new_starts starts count cells) state → state < limit
heads_below limit starts count [] all le state has = all state has
heads_below limit starts count (One test ∷ cells) all le state has =
    heads_below limit (count ∷ []) (count + 1) cells (with_one limit count [] (omega arith) (λ s (k, none, e). absurd (omega arith))) (omega arith) state has
heads_below limit starts count (Many test ∷ cells) all le state has =
    heads_below limit (starts ++ count ∷ []) (count + 1) cells (with_one limit count starts (omega arith) all) (omega arith) state has

if_below : (limit : ℕ) (b : Bool) (states : List ℕ) → ((state : ℕ) → Contains states state → state < limit) → (state : ℕ) → Contains (if b then states else []) state → state < limit
if_below limit true states all state has = all state has
if_below limit false states all state (k, none, e) = absurd (omega arith)

copies_below : (made : Made) (modifier : PartModifier) (cells : List Cell) → IsBelow made.count made → IsBelow (with_copies made modifier cells).count (with_copies made modifier cells)
copies_below made modifier cells below =
    let outer = with_repeat_starts made (repeats modifier) cells in
    let count = cells_count outer cells in
    let limit = (with_cells outer cells).count in
    let more = (λ (state : ℕ) (lt : state < made.count). let h : state < limit = omega arith in h) in
    let none = (λ (s : ℕ) (it : Contains [] s). absurd {A = s < limit} (let lt = it.1 in omega arith)) in
    let first : IsBelow limit outer = record {
      edges = λ edge has. more edge.to (below.edges edge has);
      starts = λ state has. elim (Contains-append_cases made.starts _ state has) [
        | inl before ↦ more state (below.starts state before)
        | inr new ↦ if_below limit (repeats modifier && has_one cells) (new_starts [] made.count cells) (heads_below limit [] made.count cells none (omega arith)) state new
      ];
    } in
    let inner = cells_below limit outer cells first (omega arith) in
    record {
      edges = inner.edges;
      starts = λ state has. elim (Contains-append_cases (with_cells outer cells).starts _ state has) [
        | inl before ↦ inner.starts state before
        | inr new ↦ if_below limit (may_miss modifier && has_one cells) made.starts (λ s it. more s (below.starts s it)) state new
      ];
    }

part_below : (options : OptionsView) (made : Made) (part : PartView) (shape : Option Shape) → IsBelow made.count made → IsBelow (with_part options made part shape).count (with_part options made part shape)
part_below options made part None below = copies_below made part.modifier (reverse (cells_of options part.kind part)) below
part_below options made part (Some shape) below =
    let limit = made.count + shape_size shape in
    let more = (λ (state : ℕ) (lt : state < made.count). let h : state < limit = omega arith in h) in
    record {
      edges = λ edge has. elim (Contains-append_cases made.edges (shape_edges shape made.count made.starts) edge has) [
        | inl before ↦ more edge.to (below.edges edge before)
        | inr new ↦ shape_below limit shape made.count made.starts (λ s it. more s (below.starts s it)) (omega arith) edge new
      ];
      starts = begins_below limit shape made.count made.starts (λ s it. more s (below.starts s it)) (omega arith);
    }

parts_below : (options : OptionsView) (parts : List ShapedPart) → IsBelow (made options parts).count (made options parts)
parts_below options [] = record {
  edges = λ edge (k, lt, e). absurd (omega arith);
  starts = λ state has. elim (contains_cons 0 state [] has) [ inl e ↦ subst (λ s. s < 1) e (omega arith) | inr (k, none, e) ↦ absurd (omega arith) ];
}
parts_below options (part ∷ parts) = part_below options (made options parts) part.0 part.1 (parts_below options parts)

parts_within : (options : OptionsView) (parts : List ShapedPart) (automaton : PartsAutomaton) → made_view automaton ≡ made options parts → IsWithin automaton
parts_within options parts automaton same =
    let below : IsBelow automaton.states (made_view automaton) = subst (λ (it : Made). IsBelow it.count it) (sym same) (parts_below options parts) in
    record {
      edges = λ k d lt. below.edges (get_or automaton.edges.items k d) (Contains-get_or automaton.edges.items k d lt);
      starts = λ k d lt. below.starts (get_or automaton.starts.items k d) (Contains-get_or automaton.starts.items k d lt);
    }

-- The states that the automaton of parts names are less than its number of states.
pub made_within : (options : OptionsView) (parts : List PartView) (automaton : PartsAutomaton) → IsMadeOf options parts automaton → IsWithin automaton
made_within options parts automaton is = parts_within (folded_options options) (folded_shaped options is.shaped) automaton is.view

-- ---- the number of states

pub part_count : (options : OptionsView) (part : PartView) (made : Made) → (with_part options made part None).count ≡ made.count + length (reverse (cells_of options part.kind part))
part_count options part made =
    let cells = reverse (cells_of options part.kind part) in
    cells_count (with_repeat_starts made (repeats part.modifier) cells) cells

parts_count : (options : OptionsView) (front back : List PartView) → (made options (unshaped back)).count ≤ (made options (unshaped (front ++ back))).count
parts_count options [] back = omega arith
parts_count options (part ∷ front) back = let e = part_count options part (made options (unshaped (front ++ back))) in let le = parts_count options front back in omega arith

-- A part of too many cells, or a part before too many states.
pub many_states : (options : OptionsView) (parts before rest : List PartView) (part : PartView) → parts ≡ (before ++ part ∷ []) ++ rest →
    (10000 < length (cells_of options part.kind part)) ⊎ (10000 < (made options (unshaped rest)).count) → 10000 < (made options (unshaped parts)).count
many_states options parts before rest part e many =
    let count = part_count options part (made options (unshaped rest)) in
    let size = length-reverse (cells_of options part.kind part) in
    let le = parts_count options before (part ∷ rest) in
    let enough : 10000 < (made options (unshaped (part ∷ rest))).count = elim many [ inl cells ↦ omega arith | inr states ↦ omega arith ] in
    subst (λ (all : List PartView). 10000 < (made options (unshaped all)).count) (sym (e ∙ append_assoc before (part ∷ []) rest)) (let h : 10000 < (made options (unshaped (before ++ part ∷ rest))).count = omega arith in h)
