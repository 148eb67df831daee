-- A search for the pattern of a tree, between `^` and `$`, has the captures of the first match.
use Rattle.std.proofs.Common.{◌≡◌, ℕ, Bool, zero, suc, ◌+◌, ◌*◌, ◌≤◌, ◌<◌, List, [], ◌∷◌, ◌++◌, map, find, length, Option, Some, None, option_map, true, false, cond, if◌then◌else◌, ◌==◌, refl, sym, ap, ap₂, ◌∙◌, subst, append-nil, length-append, inl, inr, arith, ne_eqb}
use Rattle.std.proofs.lemmas.Bool.{cond-true, cond-false, cond_both}
use Rattle.std.proofs.lemmas.Option.{none-some, same_Some, slice_get_past, slice_get-get_or}
use Rattle.std.proofs.lemmas.Str.{encodes-append, length-le-encodes, IsCharBoundary-start}
use Rattle.regex.proofs.Utf8Lemmas.{test_of_IsCharBoundary}
use Rattle.std.specs.List.{range_with_len}
use Rattle.std.specs.Option.{option_or}
use lib.Utf8.{scalars, encodes}
use Rattle.regex_hir.specs.Find.{Match, find_str, first_between, last_write, slot_of}
use Rattle.regex_hir.specs.Looks.{holds, holds_between}
use Rattle.regex_hir.specs.declared.look.Look.TheVariants.{Start, End}
use Rattle.regex_hir.specs.Re.{Re, look, cat, Trace, Rest, accept, attempt}
use Rattle.regex_hir.specs.Text.{is_boundary}
use Rattle.regex_hir.proofs.FindLemmas.{first_between_here, first_between_none}
use Rattle.regex_hir.proofs.OptionLemmas.{option_or-None}
use Rattle.regex_hir.proofs.TextLemmas.{byte_before-zero, byte_before-add-one}
use Rattle.regex.specs.Writes.{both, group_of}
use Rattle.urlpattern_meaning.specs.PartMeaning.{Captures}
use Rattle.urlpattern_meaning.specs.Dialect.{Items, group_count, AreItems}
use Rattle.urlpattern_meaning.specs.Ways.{Way, ways_as}
use Rattle.urlpattern_meaning.proofs.WayLists.{Every}
use Rattle.urlpattern_meaning.proofs.WaysJoined.{first_of, takes_all}
use Rattle.urlpattern_meaning.proofs.WaysSound.{IsSound}
use Rattle.urlpattern_engine.proofs.WaysCounted.{HasCaptures, cuts_items}
use Rattle.urlpattern_engine.proofs.WayResults.{at, Gave}
use Rattle.urlpattern_engine.proofs.GroupSlots.{Shown, Spans, text_at, shown-append, shown-empty_way, shown-capturing}
use Rattle.urlpattern_engine.proofs.TreeAttempts.{re_items, items-fit}

-- The texts of n groups in a match, the first of which is g.
abbrev pub texts_from : List ℕ → Match → ℕ → ℕ → Captures
texts_from hay m g n = map (λ k. option_map (text_at hay) (group_of m k)) (range_with_len g n)

slot : (m : Match) (k : ℕ) → 2 ≤ k → slot_of m k ≡ last_write m.trace.writes k
unfolding slot_of
slot m k high =
    ap₂ option_or
    (ap (option_or (last_write m.trace.writes k)) (cond-false (1 == k) (Some m.trace.end) None (ne_eqb 1 k (omega arith))) ∙ option_or-None _)
    (cond-false (0 == k) (Some m.start) None (ne_eqb 0 k (omega arith)))
    ∙ option_or-None _

pub texts-shown : (hay : List ℕ) (m : Match) (g : ℕ) (captures : Captures) → 1 ≤ g → Spans hay g captures m.trace.writes → texts_from hay m g (length captures) ≡ captures
texts-shown hay m g [] some s = refl
texts-shown hay m g (c ∷ captures) some s =
    ap₂ ◌∷◌
    (ap₂ (λ a b. option_map (text_at hay) (both a b)) (slot m (2 * g) (omega arith)) (slot m (2 * g + 1) (omega arith)) ∙ s.0)
    (texts-shown hay m (g + 1) captures (omega arith) (subst (λ n. Spans hay n captures m.trace.writes) (omega arith) s.1))

-- ---- anchors

pub starts : (hay : List ℕ) → holds Start hay 0 ≡ true
unfolding holds holds_between
starts hay = rw (byte_before-zero hay) refl

pub not_start : (hay : List ℕ) (i : ℕ) → 0 < i → i ≤ length hay → holds Start hay i ≡ false
unfolding holds holds_between
not_start hay (suc i) p le =
    let next : suc i ≡ i + 1 = omega arith in
    rw (next, byte_before-add-one hay i, slice_get-get_or hay i 0 (omega arith)) refl
not_start hay zero p le = absurd (omega arith)

pub ends : (hay : List ℕ) (i : ℕ) → length hay ≤ i → holds End hay i ≡ true
unfolding holds holds_between
ends hay i le = rw (slice_get_past hay i le) refl

pub not_end : (hay : List ℕ) (i : ℕ) → i < length hay → holds End hay i ≡ false
unfolding holds holds_between
not_end hay i less = rw (slice_get-get_or hay i 0 less) refl

abbrev pub to_end : List ℕ → Rest
to_end hay i = if holds End hay i then accept i else None

at_end : (hay : List ℕ) (i : ℕ) → length hay ≤ i → to_end hay i ≡ accept i
at_end hay i le = cond-true (holds End hay i) (accept i) None (ends hay i le)

goes_on : (hay : List ℕ) (i : ℕ) → i < length hay → to_end hay i ≡ None
goes_on hay i less = cond-false (holds End hay i) (accept i) None (not_end hay i less)

-- ---- the first of several matches

abbrev pub Shows : List ℕ → List Way → Option Trace → Type 0
Shows hay = Gave (Shown hay) (shown-append hay) (shown-empty_way hay) 1 [] (to_end hay)

abbrev pub answer : List ℕ → ℕ → Option Trace → Option Captures
answer hay count = option_map (λ t. texts_from hay (record { start = 0; trace = t }) 1 count)

-- An attempt that tries matches with this number of captures has the captures of the first that
-- matches the whole text.
module _ (text : List ℕ) (Is : List ℕ → Captures → Type 0) (count : ℕ) (counted : (taken : List ℕ) (captures : Captures) → Is taken captures → length captures ≡ count) where
  pub first_shown : (all : List Way) (o : Option Trace) → Every (IsSound text Is) all → Shows (encodes text) all o → answer (encodes text) count o ≡ first_of all
  first_shown [] o every e = ap (answer (encodes text) count) e
  first_shown (way ∷ all) o every shows = by way.rest refl (first_shown all o every.1) shows
    where
      by : (rest : List ℕ) → way.rest ≡ rest → (Shows (encodes text) all o → answer (encodes text) count o ≡ first_of all) → Shows (encodes text) (way ∷ all) o
          → answer (encodes text) count o ≡ option_map (λ w. w.captures) (cond (length rest == 0) (Some way) (find takes_all all))
      by [] e later (inl p) =
          let whole : text ≡ way.taken = every.0.0 ∙ ap (λ r. way.taken ++ r) e ∙ append-nil way.taken in
          absurd (none-some _ (sym p.0 ∙ at_end (encodes text) (at way.taken) (omega (arith, ap at whole))))
      by [] e later (inr (own, rest, there, f, s)) =
          let whole : text ≡ way.taken = every.0.0 ∙ ap (λ r. way.taken ++ r) e ∙ append-nil way.taken in
          let last : rest ≡ record { end = at way.taken; writes = [] } =
          same_Some _ _ (sym there ∙ at_end (encodes text) (at way.taken) (omega (arith, ap at whole))) in
          let writes : (own ++ rest.writes) ≡ own = ap (λ (t : Trace). own ++ t.writes) last ∙ append-nil own in
          let m : Match = record { start = 0; trace = record { end = rest.end; writes = own ++ rest.writes } } in
          ap (answer (encodes text) count) f
          ∙ ap Some (ap (texts_from (encodes text) m 1) (sym (counted way.taken way.captures every.0.1))
          ∙ texts-shown (encodes text) m 1 way.captures (omega arith) (subst (Spans (encodes text) 1 way.captures) (sym writes) s.1))
      by (c ∷ rest) e later (inl p) =
          later p.1 ∙ ap (option_map (λ (w : Way). w.captures)) (sym (cond-false (length (c ∷ rest) == 0) (Some way) (find takes_all all) (ne_eqb (length (c ∷ rest)) 0 (omega arith))))
      by (c ∷ rest) e later (inr (own, trace, there, f, s)) =
          let cut : text ≡ way.taken ++ c ∷ rest = every.0.0 ∙ ap (λ r. way.taken ++ r) e in
          let inside : at way.taken < length (encodes text) =
          omega (arith, ap at cut, ap length (encodes-append way.taken (c ∷ rest)), length-append (encodes way.taken) (encodes (c ∷ rest)), length-le-encodes (c ∷ rest)) in
          absurd (none-some _ (sym (goes_on (encodes text) (at way.taken) inside) ∙ there))

-- The result is that at the start, if there is none later on.
pub found_at_start : (hay : List ℕ) (count : ℕ) (at_place : Rest) (o : Option Trace) → at_place 0 ≡ o → ((i : ℕ) → 0 < i → i ≤ length hay → at_place i ≡ None)
    → option_map (λ m. texts_from hay m 1 count) (first_between at_place 0 (length hay)) ≡ answer hay count o
found_at_start hay count at_place None e later = ap (option_map (λ m. texts_from hay m 1 count)) (first_between_none at_place 0 (length hay) nowhere)
  where
    nowhere : (i : ℕ) → 0 ≤ i → i ≤ length hay → at_place i ≡ None
    nowhere zero p le = e
    nowhere (suc i) p le = later (suc i) (omega arith) le
found_at_start hay count at_place (Some t) e later = ap (option_map (λ m. texts_from hay m 1 count)) (first_between_here at_place 0 (length hay) t (omega arith) e)

-- ---- the pattern of a tree

module _ (same : (c written : ℕ) → Bool) (tree : Items) (h : AreItems tree) (text : List ℕ) (good : scalars text ≡ true) where
  abbrev hay : List ℕ
  hay = encodes text

  abbrev pattern : Re
  pattern = cat (look Start) (cat (re_items same 1 tree) (look End))

  -- The result for the items and the anchor at the end.
  abbrev inside_lines : Option Trace
  inside_lines = attempt hay (re_items same 1 tree) (to_end hay) 0

  abbrev at_place : Rest
  at_place i = if is_boundary hay i then attempt hay pattern accept i else None

  at_start : at_place 0 ≡ inside_lines
  unfolding attempt
  at_start = cond-true (is_boundary hay 0) _ None (test_of_IsCharBoundary hay 0 (IsCharBoundary-start hay (text, (good, refl)))) ∙ cond-true (holds Start hay 0) _ None (starts hay)

  later_on : (i : ℕ) → 0 < i → i ≤ length hay → at_place i ≡ None
  unfolding attempt
  later_on i p le = cond_both (is_boundary hay i) _ None (λ (o : Option Trace). o ≡ None) (λ _. cond-false (holds Start hay i) _ None (not_start hay i p le)) (λ _. refl)

  -- The groups of the result are the captures of the first match.
  pub found_is_first : option_map (λ m. texts_from hay m 1 (group_count tree)) (find_str pattern hay 0) ≡ first_of (ways_as same tree text)
  unfolding find_str
  found_is_first =
      found_at_start hay (group_count tree) at_place inside_lines at_start later_on
      ∙ first_shown text (HasCaptures (group_count tree)) (group_count tree) (λ t c p. p) (ways_as same tree text) inside_lines (cuts_items same tree h text)
      (items-fit same (Shown hay) (shown-append hay) (shown-empty_way hay) text good (shown-capturing text good) tree h 1 [] text refl (to_end hay))
