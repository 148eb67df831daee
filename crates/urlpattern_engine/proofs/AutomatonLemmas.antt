-- An automaton returns what its tree does.
use Rattle.std.proofs.Common.{◌≡◌, ℕ, zero, suc, ◌+◌, ◌-◌, ◌*◌, ◌/◌, ◌<◌, ◌≤◌, Bool, true, cond, nat_le, ◌&&◌, ◌==◌, inl, inr, List, ◌∷◌, map, length, Option, Some, None, option_map, is_some, false, true≢false, IsUtf8, IsCharBoundary, slice_index, take, ext_get_or, get_or-take, length-take-le, refl, sym, ap, ap₂, ◌∙◌, subst, ⊎_elim, arith, ne_eqb, le-leb}
use Rattle.std.proofs.lemmas.Bool.{and_from, and_parts, cases_Bool, cond-true, cond-false, leb-true}
use Rattle.std.proofs.lemmas.List.FromFn.{get_or-map-range_with_len, length-map-range_with_len}
use Rattle.std.proofs.lemmas.Option.{none-some, same_Some}
use Rattle.std.proofs.lemmas.Str.{IsCharBoundary-start, encodes-chars}
use Rattle.std.proofs.Math.Logic.{∥∥₁_elim}
use Rattle.std.specs.Coded.{coded_list, coded_option, coded_ℕ}
use base.Stored.{Coded-set}
use Rattle.std.specs.List.{range_with_len}
use Rattle.std.specs.Option.{option_or}
use Rattle.std.specs.Prelude.{IfSome, IsTrue, encode_utf8_all, option_and_then}
use Rattle.std.specs.Str.{all_scalars, chars}
use Rattle.regex.specs.Search.{is_cut_at}
use Rattle.regex.specs.Writes.{HasTextParts, IsTidy, both, group_of}
use Rattle.regex.proofs.Utf8Lemmas.{IsCharBoundary-of_test, is_cut_at-text, test_of_IsCharBoundary}
use Rattle.regex.proofs.WritesLemmas.{last_write_has, writes_are_tidy_in_text}
use Rattle.regex_compile.specs.Implements.{Implements}
use Rattle.regex_extract.specs.Bounds.{IsAnchored}
use Rattle.regex_hir.specs.Find.{Match, find_str, last_write, slot_of}
use Rattle.regex_hir.specs.Meaning.{meaning}
use Rattle.regex_hir.specs.Re.{Re, accept, attempt}
use Rattle.regex_hir.specs.Text.{is_boundary}
use Rattle.regex_hir.proofs.AttemptLemmas.{cond_some}
use Rattle.regex_hir.proofs.FindLemmas.{IsFirst-of_first_between, first_between_cong, first_between_here, first_between_none}
use Rattle.regex_hir.proofs.OptionLemmas.{none_of_no_value, option_cases, option_or-None}
use Rattle.regex_meta.proofs.LeftmostLemmas.{Matches-of_attempt}
use Rattle.regex_nfa.specs.declared.nfa.Nfa.{Nfa}
use Rattle.regex_vm.specs.Found.{cell, first_match, group_cells}
use Rattle.urlpattern_matcher.specs.Regexes.{group_texts, text_between}
use Rattle.urlpattern_engine.specs.Automatons.{IsNfaOf, automaton_result, match_captures, cell_texts, match_at_start, place_of, read_result, text_cut}
use Rattle.urlpattern_engine.proofs.TextParts.{text_parts}
use Rattle.urlpattern_engine.proofs.GrammarResults.{tree_answer, tree_as_read}
use Rattle.urlpattern_meaning.specs.PartMeaning.{Captures}

-- ---- a match at the start of a text

none_either_way : {A : Type 0} (b : Bool) (o : Option A) → o ≡ None → cond b o None ≡ None
none_either_way true o none = none
none_either_way false o none = refl

module _ (nfa : Nfa) (re : Re) (implements : Implements nfa re) (anchored : IsAnchored true re) (hay : List ℕ) (utf8 : IsUtf8 hay) where
  nowhere : attempt hay re accept 0 ≡ None → (i : ℕ) → i ≤ length hay → attempt hay re accept i ≡ None
  nowhere none i inside = none_of_no_value _ (λ t e.
      let start : i ≡ 0 = anchored.at hay i t.end inside (Matches-of_attempt re hay i t e) in
      none-some t (sym none ∙ subst (λ x. attempt hay re accept x ≡ Some t) start e))

  first_is_found : first_match nfa hay (length hay) 0 0 ≡ find_str re hay 0
  unfolding find_str
  first_is_found =
      first_between_cong _ (attempt hay re accept) 0 0 (λ i _ _. implements hay i)
      ∙ ⊎_elim
      (λ none.
      first_between_none (attempt hay re accept) 0 0 (λ i p q. nowhere none i (omega arith))
      ∙ sym (first_between_none _ 0 (length hay) (λ i p q. none_either_way (is_boundary hay i) _ (nowhere none i q))))
      (λ found.
      first_between_here (attempt hay re accept) 0 0 found.0 (omega arith) found.1
      ∙ sym (first_between_here _ 0 (length hay) found.0 (omega arith)
      (cond-true (is_boundary hay 0) _ None (test_of_IsCharBoundary hay 0 (IsCharBoundary-start hay utf8)) ∙ found.1)))
      (option_cases (attempt hay re accept 0))

-- ---- the captures of groups

slot_after : (m : Match) (slot : ℕ) → 2 ≤ slot → slot_of m slot ≡ last_write m.trace.writes slot
unfolding slot_of
slot_after m slot high =
    ap₂ option_or
    (ap (option_or (last_write m.trace.writes slot)) (cond-false _ (Some m.trace.end) None (ne_eqb 1 slot (omega arith)))
    ∙ option_or-None _)
    (cond-false _ (Some m.start) None (ne_eqb 0 slot (omega arith)))
    ∙ option_or-None _

pub text_is_cut : (hay : List ℕ) (first last : ℕ) → first ≤ last → IsCharBoundary hay first → IsCharBoundary hay last
    → text_cut hay (first, last) ≡ Some (text_between hay (first, last))
text_is_cut hay first last ordered from to =
    cond-true _ _ None (and_from _ _ (le-leb first last ordered) (and_from _ _ (is_cut_at-text hay first from) (is_cut_at-text hay last to)))

boundary_of_cut : (hay : List ℕ) (i : ℕ) → is_cut_at true hay i ≡ true → IsCharBoundary hay i
unfolding is_cut_at
boundary_of_cut hay i h = let both = and_parts _ _ h in IsCharBoundary-of_test hay i (leb-true i (length hay) both.0) both.1

pub text_is_not_cut : (hay : List ℕ) (first last : ℕ) → ¬ ((first ≤ last) × IsCharBoundary hay first × IsCharBoundary hay last) → text_cut hay (first, last) ≡ None
text_is_not_cut hay first last never = elim (cases_Bool (nat_le first last && (is_cut_at true hay first && is_cut_at true hay last))) [
  | inl cut ↦
      let ordered = and_parts _ _ cut in
      let ends = and_parts _ _ ordered.1 in
      absurd (never (leb-true first last ordered.0, boundary_of_cut hay first ends.0, boundary_of_cut hay last ends.1))
  | inr refused ↦ cond-false _ _ None refused
]

-- The span is in order and at character boundaries.
abbrev Fits : List ℕ → ℕ × ℕ → Type 0
Fits hay s = (s.0 ≤ s.1) × IsCharBoundary hay s.0 × IsCharBoundary hay s.1

span_is_cut : (hay : List ℕ) (o : Option (ℕ × ℕ)) → IfSome o (Fits hay) → option_and_then (text_cut hay) o ≡ option_map (text_between hay) o
span_is_cut hay None fits = refl
span_is_cut hay (Some s) fits = text_is_cut hay s.0 s.1 fits.0 fits.1 fits.2

group_fits : (hay : List ℕ) (m : Match) → IsTidy (IsCharBoundary hay) m.start m.trace.end m.trace.writes → (n : ℕ) → 1 ≤ n → IfSome (group_of m n) (Fits hay)
group_fits hay m tidy n positive =
    let writes = m.trace.writes in
    let Placed : ℕ → Type 0 = λ i. (m.start ≤ i) × (i ≤ m.trace.end) × IsCharBoundary hay i in
    let low = slot_after m (2 * n) (omega arith) in
    let high = slot_after m (2 * n + 1) (omega arith) in
    ⊎_elim
    (λ unset. subst (λ o. IfSome o (Fits hay)) (sym (ap₂ both (low ∙ unset.0) (high ∙ unset.1))) tt)
    (λ set.
    let first = last_write_has Placed writes (2 * n) set.0 tidy.placed set.2 in
    let last = last_write_has Placed writes (2 * n + 1) set.1 tidy.placed set.3 in
    subst (λ o. IfSome o (Fits hay)) (sym (ap₂ both (low ∙ set.2) (high ∙ set.3))) (set.4, first.2, last.2))
    (tidy.paired n)

same_groups : (f g : ℕ → Option (List ℕ)) (first count : ℕ) → ((n : ℕ) → first ≤ n → n < first + count → f n ≡ g n)
    → map f (range_with_len first count) ≡ map g (range_with_len first count)
same_groups f g first zero same = refl
same_groups f g first (suc count) same =
    ap₂ ◌∷◌ (same first (omega arith) (omega arith)) (same_groups f g (first + 1) count (λ n low high. same n (omega arith) (omega arith)))

captures_are_texts : (hay : List ℕ) (re : Re) (m : Match) (count : ℕ) → IsUtf8 hay → HasTextParts re → find_str re hay 0 ≡ Some m
    → match_captures hay count m ≡ group_texts hay count (group_of m)
unfolding find_str
captures_are_texts hay re m count utf8 parts found =
    let first = IsFirst-of_first_between _ 0 (length hay) m found in
    let here = cond_some (is_boundary hay m.start) _ m.trace first.here in
    let tidy = writes_are_tidy_in_text hay re m.start m.trace utf8 parts (IsCharBoundary-of_test hay m.start first.to here.0) here.1 in
    same_groups _ _ 1 count (λ n low _. span_is_cut hay (group_of m n) (group_fits hay m tidy n low))

option_map_same : {A B : Type 0} (o : Option A) (f g : A → B) → ((x : A) → o ≡ Some x → f x ≡ g x) → option_map f o ≡ option_map g o
option_map_same None f g same = refl
option_map_same (Some x) f g same = ap Some (same x refl)

-- ---- the laws

module _ (ignore_case : Bool) (source : List ℕ) (nfa : Nfa) (made : IsNfaOf ignore_case source nfa) (text : List ℕ) (fine : IsTrue (all_scalars text)) where
  answers_as_tree : automaton_result nfa text ≡ tree_answer made.tree made.names text
  unfolding automaton_result
  answers_as_tree =
      let bytes = encode_utf8_all text in
      let spelled : IsUtf8 bytes = (text, (fine, refl)) in
      let re = meaning made.tree in
      let count : nfa.slot_count / 2 - 1 ≡ length made.names - 1 = omega (arith, made.slots) in
      ap₂ (λ n o. option_map (match_captures bytes n) o) count (first_is_found nfa re made.implements made.is_anchored bytes spelled)
      ∙ option_map_same (find_str re bytes 0) _ _ (λ m found. captures_are_texts bytes re m _ spelled (text_parts made.tree made.is_formed) found)

  -- An automaton returns the first match of what the grammar reads in its text.
  pub automaton_as_read : automaton_result nfa text ≡ read_result ignore_case (chars source) text
  automaton_as_read = answers_as_tree ∙ tree_as_read ignore_case source made.tree made.names made.is_read text fine

-- The truncated fact about an automaton is enough.
pub automaton_as_read_once : (ignore_case : Bool) (source : List ℕ) (nfa : Nfa) → ∥ IsNfaOf ignore_case source nfa ∥₁ → (text : List ℕ) → IsTrue (all_scalars text)
    → automaton_result nfa text ≡ read_result ignore_case (chars source) text
automaton_as_read_once ignore_case source nfa made text fine =
    ∥∥₁_elim made (Coded-set (coded_option (coded_list (coded_option (coded_list coded_ℕ)))) _ _)
    (λ made. automaton_as_read ignore_case source nfa made text fine)

-- ---- the cells that a search writes

place_of_cell : (o : Option ℕ) → place_of (cell o) ≡ o
place_of_cell None = refl
place_of_cell (Some i) =
    let back : i + 1 - 1 ≡ i = omega arith in
    cond-false (i + 1 == 0) None _ (ne_eqb (i + 1) 0 (λ e. omega arith)) ∙ ap (λ (place : ℕ). Some place) back

cell_at : (m : Match) (width k slot : ℕ) → 2 ≤ slot → k < width → k + 2 ≡ slot → place_of (slice_index (group_cells m width) k) ≡ slot_of m slot
unfolding group_cells
cell_at m width k slot high inside is =
    ap place_of
    (get_or-map-range_with_len (λ j. cell (last_write m.trace.writes (j + 2))) 0 width k k 0 inside (omega arith)
    ∙ ap (λ (s : ℕ). cell (last_write m.trace.writes s)) is)
    ∙ place_of_cell (last_write m.trace.writes slot) ∙ sym (slot_after m slot high)

cells_show : (hay : List ℕ) (m : Match) (width count : ℕ) → 2 * count ≤ width → cell_texts hay (group_cells m width) count ≡ match_captures hay count m
cells_show hay m width count fits =
    same_groups _ _ 1 count (λ n low high.
    ap (option_and_then (text_cut hay))
    (ap₂ both (cell_at m width (2 * n - 2) (2 * n) (omega arith) (omega arith) (omega arith))
    (cell_at m width (2 * n - 1) (2 * n + 1) (omega arith) (omega arith) (omega arith))))

-- The result for the cells of a match, or for none.
pub answer_of_cells : (nfa : Nfa) (bytes cells : List ℕ) (width : ℕ) (texts : Captures) → IsUtf8 bytes → width ≡ nfa.slot_count - 2 → length cells ≡ width
    → true ≡ is_some (match_at_start nfa bytes) → IfSome (match_at_start nfa bytes) (λ m. cells ≡ group_cells m width)
    → texts ≡ cell_texts bytes cells (length cells / 2) → Some texts ≡ automaton_result nfa (chars bytes)
unfolding automaton_result
answer_of_cells nfa bytes cells width texts utf8 wide kept is shown read =
    rw (encodes-chars bytes utf8) (at (match_at_start nfa bytes) is shown)
  where
    at : (o : Option Match) → true ≡ is_some o → IfSome o (λ m. cells ≡ group_cells m width)
        → Some texts ≡ option_map (match_captures bytes (nfa.slot_count / 2 - 1)) o
    at None is shown = absurd (true≢false is)
    at (Some m) is shown =
        let count : length cells / 2 ≡ nfa.slot_count / 2 - 1 = omega (arith, wide, kept) in
        ap (λ (t : Captures). Some t)
        (read ∙ ap (cell_texts bytes cells) count ∙ ap (λ c. cell_texts bytes c (nfa.slot_count / 2 - 1)) shown
        ∙ cells_show bytes m width (nfa.slot_count / 2 - 1) (omega arith))

pub answer_of_nothing : (nfa : Nfa) (bytes : List ℕ) → IsUtf8 bytes → false ≡ is_some (match_at_start nfa bytes) → None ≡ automaton_result nfa (chars bytes)
unfolding automaton_result
answer_of_nothing nfa bytes utf8 is =
    rw (encodes-chars bytes utf8) (at (match_at_start nfa bytes) is)
  where
    at : (o : Option Match) → false ≡ is_some o → None ≡ option_map (match_captures bytes (nfa.slot_count / 2 - 1)) o
    at None is = refl
    at (Some m) is = absurd (true≢false (sym is))

-- ---- the first cells of a match

few_cells : (m : Match) (count width : ℕ) → count ≤ width → take count (group_cells m width) ≡ group_cells m count
unfolding group_cells
few_cells m count width fits =
    let at : ℕ → ℕ = λ k. cell (last_write m.trace.writes (k + 2)) in
    let all = map at (range_with_len 0 width) in
    let wide : length all ≡ width = length-map-range_with_len at 0 width in
    let long : length (take count all) ≡ count = length-take-le count all (omega (arith, wide)) in
    ext_get_or 0 (take count all) (map at (range_with_len 0 count)) (long ∙ sym (length-map-range_with_len at 0 count))
    (λ k h.
    let below : k < count = omega (arith, long) in
    get_or-take count all k 0 below
    ∙ get_or-map-range_with_len at 0 width k k 0 (omega arith) (omega arith)
    ∙ sym (get_or-map-range_with_len at 0 count k k 0 below (omega arith)))

-- The cells of a match, if there is one.
pub cells_of_some : (o : Option Match) (cells : List ℕ) (count width : ℕ) → count ≤ width → Some cells ≡ option_map (λ m. group_cells m width) o
    → (true ≡ is_some o) × IfSome o (λ m. take count cells ≡ group_cells m count) × (length (take count cells) ≡ count)
unfolding group_cells
cells_of_some None cells count width fits e = absurd (none-some cells (sym e))
cells_of_some (Some m) cells count width fits e =
    let few = ap (take count) (same_Some _ _ e) ∙ few_cells m count width fits in
    (refl, few, ap length few ∙ length-map-range_with_len (λ k. cell (last_write m.trace.writes (k + 2))) 0 count)

pub none_of_no_cells : (o : Option Match) (width : ℕ) → None ≡ option_map (λ m. group_cells m width) o → false ≡ is_some o
none_of_no_cells None width e = refl
none_of_no_cells (Some m) width e = absurd (none-some (group_cells m width) e)
