-- The ways of choices, and of trees, split a text, with a number of captures that is known.
use Rattle.std.proofs.Common.{◌≡◌, ℕ, suc, ◌+◌, Bool, true, false, List, [], ◌∷◌, ◌++◌, length, Option, None, refl, sym, ap, ◌∙◌, append_assoc, length-append, arith}
use Rattle.std.proofs.lemmas.List.{length-replicate}
use Rattle.urlpattern_expressions.specs.PartWays.{captured_whole, followed_by}
use Rattle.urlpattern_meaning.proofs.WayLists.{every-append, every-cond, every-continued, every-map, every-weaker}
use Rattle.urlpattern_meaning.proofs.WaysSound.{IsSound, AreSound, taken-count, taken-sound}
use Rattle.urlpattern_meaning.specs.Dialect.{AllowsGroups, IsQuantified, Quantifier, Once, Optional, OneOrMore, LazyOneOrMore, Items, Nothing, Item, Atom, Literal, Dot, AnyBut, Captured, Grouped, group_count, atom_group_count, AreItems, IsAtom}
use Rattle.urlpattern_meaning.specs.PartMeaning.{Captures}
use Rattle.urlpattern_meaning.specs.Ways.{WaysByText, atom_ways_as, capturing, empty_way, looped, one_that, quantified_ways, ways_as}

-- ---- choices

-- The number of captures is `count`.
abbrev pub HasCaptures : (count : ℕ) → List ℕ → Captures → Type 0
HasCaptures count taken captures = length captures ≡ count

-- Each way splits the text in two, with `count` captures.
abbrev pub Cuts : WaysByText → (count : ℕ) → Type 0
Cuts choice count = AreSound choice (HasCaptures count)

pub cuts_idle : (groups : ℕ) → Cuts (λ text. empty_way groups text ∷ []) groups
cuts_idle groups text = let nothing : Option (List ℕ) = None in ((refl, length-replicate groups nothing), tt)

pub cuts_one : (passes : ℕ → Bool) → Cuts (one_that passes) 0
cuts_one passes [] = tt
cuts_one passes (c ∷ text) = every-cond (IsSound (c ∷ text) (HasCaptures 0)) (passes c) _ _ ((refl, refl), tt) tt

pub cuts_followed : (first next : WaysByText) (m n : ℕ) → Cuts first m → Cuts next n → Cuts (followed_by first next) (m + n)
cuts_followed first next m n cuts also text =
    every-continued (IsSound text (HasCaptures m)) (IsSound text (HasCaptures (m + n))) next (first text) (cuts text)
    (λ way p. every-weaker (IsSound way.rest (HasCaptures n)) _ (next way.rest)
    (λ more q. (
      p.0 ∙ ap (λ r. way.taken ++ r) q.0 ∙ sym (append_assoc way.taken more.taken more.rest),
      omega (arith, length-append way.captures more.captures, p.1, q.1),
    ))
    (also way.rest))

pub cuts_either : (first other : WaysByText) (n : ℕ) → Cuts first n → Cuts other n → Cuts (λ text. first text ++ other text) n
cuts_either first other n cuts also text = every-append _ (first text) (other text) (cuts text) (also text)

pub cuts_captured : (choice : WaysByText) (n : ℕ) → Cuts choice n → Cuts (captured_whole choice) (suc n)
cuts_captured choice n cuts text =
    every-map _ capturing (choice text) (every-weaker (IsSound text (HasCaptures n)) _ (choice text) (λ way p. (p.0, ap (λ k. suc k) p.1)) (cuts text))

pub cuts_quantified : (quantifier : Quantifier) (groups : ℕ) (choice : WaysByText) → AllowsGroups quantifier groups → Cuts choice groups → Cuts (quantified_ways quantifier groups choice) groups
cuts_quantified quantifier groups choice allowed cuts text =
    every-weaker (IsSound text (IsQuantified quantifier groups (HasCaptures groups))) _ (quantified_ways quantifier groups choice text)
    (λ way p. (p.0, taken-count quantifier groups (HasCaptures groups) allowed (λ t c e. e) way.taken way.captures p.1))
    (taken-sound quantifier groups choice (HasCaptures groups) allowed (λ t c e. e) cuts text)

-- A choice without captures may be repeated.
pub allows_none : (quantifier : Quantifier) → AllowsGroups quantifier 0
allows_none Once = tt
allows_none Optional = tt
allows_none quantifier = refl

pub cuts_looped : (greedy : Bool) (choice : WaysByText) → Cuts choice 0 → Cuts (looped greedy choice) 0
cuts_looped true choice cuts = cuts_quantified OneOrMore 0 choice refl cuts
cuts_looped false choice cuts = cuts_quantified LazyOneOrMore 0 choice refl cuts

-- ---- trees

-- By any test of characters, each way of a tree has a capture for each of its groups.
module _ (same : (c written : ℕ) → Bool) where
  mutual
    pub cuts_items : (tree : Items) → AreItems tree → Cuts (ways_as same tree) (group_count tree)
    cuts_items Nothing h text = cuts_idle 0 text
    cuts_items (Item atom quantifier items) h text =
        let groups = atom_group_count atom in
        cuts_followed (quantified_ways quantifier groups (atom_ways_as same atom)) (ways_as same items) groups (group_count items)
        (cuts_quantified quantifier groups (atom_ways_as same atom) h.1 (cuts_atom atom h.0)) (cuts_items items h.2) text

    pub cuts_atom : (atom : Atom) → IsAtom atom → Cuts (atom_ways_as same atom) (atom_group_count atom)
    cuts_atom (Literal character) h text = cuts_one _ text
    cuts_atom Dot h text = cuts_one _ text
    cuts_atom (AnyBut character) h text = cuts_one _ text
    cuts_atom (Captured items) h text = cuts_captured (ways_as same items) (group_count items) (cuts_items items h) text
    cuts_atom (Grouped items) h text = cuts_items items h text
