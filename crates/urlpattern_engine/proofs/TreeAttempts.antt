-- The pattern of a tree, and attempts at it, which try the matches of the tree in order.
use Rattle.std.proofs.Common.{◌≡◌, ℕ, suc, ◌+◌, ◌*◌, ◌<◌, List, [], ◌∷◌, ◌++◌, length, Option, Some, Bool, true, false, not, ◌&&◌, ◌==◌, sym, ap, ◌∙◌, subst, append_assoc, arith, lt-ltb}
use Rattle.std.specs.Char.{IsScalar}
use lib.Utf8.{scalars, encodes}
use Rattle.regex_hir.specs.Re.{Re, empty, char_in, cat, alt, group, plus, Trace, Rest, write, attempt}
use Rattle.regex_hir.proofs.Utf8Lemmas.{InScalarRange-of_IsScalar}
use Rattle.regex_syntax.specs.Sets.{members}
use Rattle.regex_syntax.proofs.SetLemmas.{in_ranges-members}
use Rattle.urlpattern_meaning.specs.PartMeaning.{Captures}
use Rattle.urlpattern_meaning.specs.Dialect.{character_of, Quantifier, Once, Optional, ZeroOrMore, OneOrMore, LazyOneOrMore, Items, Nothing, Item, Atom, Literal, Dot, AnyBut, Captured, Grouped, group_count, atom_group_count, AllowsGroups, AreItems, IsAtom, IsQuantified}
use Rattle.urlpattern_syntax.specs.Text.{line_feed}
use Rattle.urlpattern_meaning.specs.Ways.{Way, WaysByText, empty_way, one_that, looped, quantified_ways, ways_as, atom_ways_as}
use Rattle.urlpattern_meaning.proofs.WayLists.{Every, every-weaker}
use Rattle.urlpattern_meaning.proofs.WaysSound.{IsSound, AreSound, nil_of_zero, taken-count, taken-sound}
use Rattle.urlpattern_engine.proofs.WaysCounted.{HasCaptures, cuts_items, cuts_atom}
use Rattle.urlpattern_engine.proofs.WayResults.{Writes, at, Gave, gave-append, gave-continued, gave-empty_way, gave-capturing}
use Rattle.urlpattern_engine.proofs.LoopAttempts.{Suits, leaf, looped-suits}

abbrev pub re_taken : Quantifier → Re → Re
re_taken Once a = a
re_taken Optional a = alt (cat a empty) empty
re_taken ZeroOrMore a = alt (plus true a) empty
re_taken OneOrMore a = plus true a
re_taken LazyOneOrMore a = plus false a

-- `same` says whether a character of the text matches one that is written.
module _ (same : (c written : ℕ) → Bool) where
  abbrev mutual
    pub re_items : ℕ → Items → Re
    re_items g Nothing = empty
    re_items g (Item atom quantifier items) = cat (re_taken quantifier (re_atom g atom)) (re_items (g + atom_group_count atom) items)

    pub re_atom : ℕ → Atom → Re
    re_atom g (Literal character) = char_in (members (λ c. same c (character_of character)))
    re_atom g Dot = char_in (members (λ c. not (c == line_feed)))
    re_atom g (AnyBut character) = char_in (members (λ c. not (same c (character_of character))))
    re_atom g (Captured items) = group g (re_items (suc g) items)
    re_atom g (Grouped items) = re_items g items

module _ (same : (c written : ℕ) → Bool) (Shown : ℕ → Captures → Writes → Type 0)
    (shown-append : (g : ℕ) (c d : Captures) (own more : Writes) → Shown g c own → Shown (g + length c) d more → Shown g (c ++ d) (own ++ more))
    (shown-empty_way : (g n : ℕ) (text : List ℕ) → Shown g (empty_way n text).captures [])
    (whole : List ℕ) (good : scalars whole ≡ true)
    (shown-capturing : (g : ℕ) (before : List ℕ) (way : Way) (own : Writes) → (before ++ way.taken) ++ way.rest ≡ whole → Shown (suc g) way.captures own
    → Shown g (Some way.taken ∷ way.captures) ((2 * g, at before) ∷ (own ++ (2 * g + 1, at (before ++ way.taken)) ∷ []))) where
  abbrev hay : List ℕ
  hay = encodes whole

  abbrev Fits : ℕ → WaysByText → (Rest → Rest) → Type 0
  Fits = Suits Shown shown-append shown-empty_way whole good

  abbrev Shows : ℕ → List ℕ → Rest → List Way → Option Trace → Type 0
  Shows = Gave Shown shown-append shown-empty_way

  character : (g : ℕ) (passes : ℕ → Bool) → Fits g (one_that passes) (attempt hay (char_in (members passes)))
  character g passes =
      leaf Shown shown-append shown-empty_way whole good g passes (members passes)
      (λ c scalar. in_ranges-members passes c ∙ ap (λ b. b && passes c) (lt-ltb c 0x11_0000 (below c scalar)))
    where
      below : (c : ℕ) → IsScalar c → c < 0x11_0000
      below c scalar = omega (arith, InScalarRange-of_IsScalar c scalar)

  bare : (choice : WaysByText) (groups : ℕ) (Is : List ℕ → Captures → Type 0) → AreSound choice Is → ((text : List ℕ) (captures : Captures) → Is text captures → length captures ≡ groups)
      → groups ≡ 0 → (text : List ℕ) → Every (λ way. (text ≡ way.taken ++ way.rest) × (way.captures ≡ [])) (choice text)
  bare choice groups Is sound count none text =
      every-weaker (IsSound text Is) _ (choice text) (λ way p. (p.0, nil_of_zero way.captures (count way.taken way.captures p.1 ∙ none))) (sound text)

  taken-fits : (g : ℕ) (quantifier : Quantifier) (groups : ℕ) (choice : WaysByText) (a : Re) (Is : List ℕ → Captures → Type 0) → AllowsGroups quantifier groups → AreSound choice Is
      → ((text : List ℕ) (captures : Captures) → Is text captures → length captures ≡ groups) → Fits g choice (attempt hay a)
      → Fits g (quantified_ways quantifier groups choice) (attempt hay (re_taken quantifier a))
  unfolding attempt
  taken-fits g Once groups choice a Is allowed sound count fits before text e k = fits before text e k
  taken-fits g Optional groups choice a Is allowed sound count fits before text e k =
      gave-append Shown shown-append shown-empty_way g before k (choice text) (empty_way groups text ∷ []) (attempt hay a (attempt hay empty k) (at before)) (k (at before))
      (fits before text e k) (gave-empty_way Shown shown-append shown-empty_way g groups before text k)
  taken-fits g ZeroOrMore groups choice a Is allowed sound count fits before text e k =
      gave-append Shown shown-append shown-empty_way g before k (looped true choice text) (empty_way groups text ∷ []) (attempt hay (plus true a) k (at before)) (k (at before))
      (looped-suits Shown shown-append shown-empty_way whole good g true choice a fits (bare choice groups Is sound count allowed) k before text e)
      (gave-empty_way Shown shown-append shown-empty_way g groups before text k)
  taken-fits g OneOrMore groups choice a Is allowed sound count fits before text e k =
      looped-suits Shown shown-append shown-empty_way whole good g true choice a fits (bare choice groups Is sound count allowed) k before text e
  taken-fits g LazyOneOrMore groups choice a Is allowed sound count fits before text e k =
      looped-suits Shown shown-append shown-empty_way whole good g false choice a fits (bare choice groups Is sound count allowed) k before text e

  mutual
    unfolding attempt

    pub items-fit : (tree : Items) → AreItems tree → (g : ℕ) → Fits g (ways_as same tree) (attempt hay (re_items same g tree))
    items-fit Nothing h g before text e k = gave-empty_way Shown shown-append shown-empty_way g 0 before text k
    items-fit (Item atom quantifier items) h g before text e k =
        let groups = atom_group_count atom in
        let Taken = IsQuantified quantifier groups (HasCaptures groups) in
        let b : Rest = attempt hay (re_items same (g + groups) items) k in
        gave-continued Shown shown-append shown-empty_way g before k b (ways_as same items) (quantified_ways quantifier groups (atom_ways_as same atom) text)
        (attempt hay (re_taken quantifier (re_atom same g atom)) b (at before))
        (every-weaker (IsSound text Taken) _ (quantified_ways quantifier groups (atom_ways_as same atom) text)
        (λ way p. subst (λ n. Shows (g + n) (before ++ way.taken) k (ways_as same items way.rest) (b (at (before ++ way.taken))))
        (sym (taken-count quantifier groups (HasCaptures groups) h.1 (λ t c p. p) way.taken way.captures p.1))
        (items-fit items h.2 (g + groups) (before ++ way.taken) way.rest (append_assoc before way.taken way.rest ∙ ap (λ t. before ++ t) (sym p.0) ∙ e) k))
        (taken-sound quantifier groups (atom_ways_as same atom) (HasCaptures groups) h.1 (λ t c p. p) (cuts_atom same atom h.0) text))
        (taken-fits g quantifier groups (atom_ways_as same atom) (re_atom same g atom) (HasCaptures groups) h.1 (cuts_atom same atom h.0) (λ t c p. p) (atom-fits atom h.0 g) before text e b)

    pub atom-fits : (atom : Atom) → IsAtom atom → (g : ℕ) → Fits g (atom_ways_as same atom) (attempt hay (re_atom same g atom))
    atom-fits (Literal c) h g before text e k = character g (λ d. same d (character_of c)) before text e k
    atom-fits Dot h g before text e k = character g (λ d. not (d == line_feed)) before text e k
    atom-fits (AnyBut c) h g before text e k = character g (λ d. not (same d (character_of c))) before text e k
    atom-fits (Captured items) h g before text e k =
        gave-capturing Shown shown-append shown-empty_way g before (λ way. (before ++ way.taken) ++ way.rest ≡ whole) (shown-capturing g before) k (ways_as same items text)
        (attempt hay (re_items same (suc g) items) (λ j. write (2 * g + 1) j (k j)) (at before))
        (every-weaker (IsSound text (HasCaptures (group_count items))) _ (ways_as same items text) (λ way p. append_assoc before way.taken way.rest ∙ ap (λ t. before ++ t) (sym p.0) ∙ e) (cuts_items same items h text))
        (items-fit items h (suc g) before text e (λ j. write (2 * g + 1) j (k j)))
    atom-fits (Grouped items) h g before text e k = items-fit items h g before text e k
