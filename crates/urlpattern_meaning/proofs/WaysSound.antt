-- The ways of a tree are meanings: the tree means the text that a way matches, with the way's
-- captures.
use Rattle.std.proofs.Common.{◌≡◌, ℕ, zero, suc, ◌+◌, List, [], ◌∷◌, ◌++◌, replicate, length, Option, None, Bool, true, false, cond, refl, sym, ap, ap₂, ◌∙◌, subst, append_assoc, length-append, eqb-true, inl, inr}
use Rattle.urlpattern_meaning.specs.Dialect.{character_of, Quantifier, Once, Optional, ZeroOrMore, OneOrMore, LazyOneOrMore, Items, Nothing, Item, Atom, Literal, Dot, AnyBut, Captured, Grouped, group_count, atom_group_count, AllowsGroups, AreItems, IsAtom, IsQuantified, Means, AtomMeans}
use Rattle.urlpattern_meaning.specs.PartMeaning.{Captures}
use Rattle.urlpattern_syntax.specs.Text.{IsRepeated}
use Rattle.urlpattern_meaning.specs.Ways.{Way, WaysByText, empty_way, one_that, is_shorter, more_rounds, looped, quantified_ways, capturing, ways, atom_ways}
use Rattle.urlpattern_meaning.proofs.WayLists.{Every, every-append, every-map, every-weaker, every-cond, every-ordered, every-continued}

-- The way cuts the text in two, and `IsA` allows the first part with its captures.
abbrev pub IsSound : List ℕ → (List ℕ → Captures → Type 0) → Way → Type 0
IsSound text IsA way = (text ≡ way.taken ++ way.rest) × IsA way.taken way.captures

abbrev pub AreSound : WaysByText → (List ℕ → Captures → Type 0) → Type 0
AreSound choice IsA = (text : List ℕ) → Every (IsSound text IsA) (choice text)

-- The text is the matches of two ways and the rest after both.
behind : (text : List ℕ) (way more : Way) → text ≡ way.taken ++ way.rest → way.rest ≡ more.taken ++ more.rest → text ≡ (way.taken ++ more.taken) ++ more.rest
behind text way more p q = p ∙ ap (λ r. way.taken ++ r) q ∙ sym (append_assoc way.taken more.taken more.rest)

-- Any number of rounds without captures.
abbrev AreRounds : (List ℕ → Captures → Type 0) → List ℕ → Captures → Type 0
AreRounds IsA text captures = (n : ℕ) × IsRepeated (λ substring. IsA substring []) n text × (captures ≡ [])

abbrev AreMoreRounds : (List ℕ → Captures → Type 0) → List ℕ → Captures → Type 0
AreMoreRounds IsA text captures = (n : ℕ) × IsRepeated (λ substring. IsA substring []) (suc n) text × (captures ≡ [])

module _ (atom : WaysByText) (IsA : List ℕ → Captures → Type 0) (sound : AreSound atom IsA) (bare : (text : List ℕ) (captures : Captures) → IsA text captures → captures ≡ []) where
  one_more : (way more : Way) → IsA way.taken way.captures → AreRounds IsA more.taken more.captures → AreMoreRounds IsA (way.taken ++ more.taken) (way.captures ++ more.captures)
  one_more way more p q = (
    q.0,
    (way.taken, more.taken, refl, subst (IsA way.taken) (bare _ _ p) p, q.1),
    ap₂ ◌++◌ (bare _ _ p) q.2,
  )

  more_rounds-sound : (greedy : Bool) (n : ℕ) → AreSound (more_rounds greedy atom n) (AreRounds IsA)
  more_rounds-sound greedy zero text = ((refl, (zero, refl, refl)), tt)
  more_rounds-sound greedy (suc n) text =
      every-ordered _ greedy _ _
      (every-continued (IsSound text IsA) _ _ (atom text) (sound text)
      (λ way p. every-cond _ (is_shorter way.rest text) _ _
      (every-weaker (IsSound way.rest (AreRounds IsA)) _ _
      (λ more q. let m = one_more way more p.1 q.1 in (behind text way more p.0 q.0, (suc m.0, m.1, m.2)))
      (more_rounds-sound greedy n way.rest))
      tt))
      ((refl, (zero, refl, refl)), tt)

  looped-sound : (greedy : Bool) → AreSound (looped greedy atom) (AreMoreRounds IsA)
  looped-sound greedy text =
      every-continued (IsSound text IsA) _ _ (atom text) (sound text)
      (λ way p. every-cond _ (is_shorter way.rest text) _ _
      (every-weaker (IsSound way.rest (AreRounds IsA)) _ _
      (λ more q. (behind text way more p.0 q.0, one_more way more p.1 q.1))
      (more_rounds-sound greedy (length way.rest) way.rest))
      ((behind text way (empty_way 0 way.rest) p.0 refl, one_more way (empty_way 0 way.rest) p.1 (zero, refl, refl)), tt))

pub nil_of_zero : (captures : Captures) → length captures ≡ 0 → captures ≡ []
nil_of_zero [] e = refl
nil_of_zero (c ∷ captures) e = absurd cc

count-replicate : (n : ℕ) → length {A = Option (List ℕ)} (replicate n None) ≡ n
count-replicate zero = refl
count-replicate (suc n) = ap suc (count-replicate n)

-- A meaning has as many captures as there are groups.
pub taken-count : (quantifier : Quantifier) (groups : ℕ) (Is : List ℕ → Captures → Type 0) → AllowsGroups quantifier groups
    → ((text : List ℕ) (captures : Captures) → Is text captures → length captures ≡ groups)
    → (text : List ℕ) (captures : Captures) → IsQuantified quantifier groups Is text captures → length captures ≡ groups
taken-count Once groups Is allowed count text captures m = count text captures m
taken-count Optional groups Is allowed count text captures (inl m) = count text captures m
taken-count Optional groups Is allowed count text captures (inr m) = ap length m.1 ∙ count-replicate groups
taken-count ZeroOrMore groups Is allowed count text captures m = ap length m.2 ∙ sym allowed
taken-count OneOrMore groups Is allowed count text captures m = ap length m.2 ∙ sym allowed
taken-count LazyOneOrMore groups Is allowed count text captures m = ap length m.2 ∙ sym allowed

mutual
  pub means-count : (tree : Items) → AreItems tree → (text : List ℕ) (captures : Captures) → Means tree text captures → length captures ≡ group_count tree
  means-count Nothing h text captures m = ap length m.1
  means-count (Item atom quantifier items) h text captures (first, rest, own, others, e, f, m, n) =
      ap length f ∙ length-append own others
      ∙ ap₂ ◌+◌ (taken-count quantifier (atom_group_count atom) (AtomMeans atom) h.1 (atom-count atom h.0) first own m) (means-count items h.2 rest others n)

  pub atom-count : (atom : Atom) → IsAtom atom → (text : List ℕ) (captures : Captures) → AtomMeans atom text captures → length captures ≡ atom_group_count atom
  atom-count (Literal character) h text captures m = ap length m.1
  atom-count Dot h text captures m = ap length m.1
  atom-count (AnyBut character) h text captures m = ap length m.1
  atom-count (Captured items) h text captures m = ap length m.1 ∙ ap suc (means-count items h text m.0 m.2)
  atom-count (Grouped items) h text captures m = means-count items h text captures m

-- ---- atoms and items

pub taken-sound : (quantifier : Quantifier) (groups : ℕ) (atom : WaysByText) (Is : List ℕ → Captures → Type 0) → AllowsGroups quantifier groups
    → ((text : List ℕ) (captures : Captures) → Is text captures → length captures ≡ groups)
    → AreSound atom Is → AreSound (quantified_ways quantifier groups atom) (IsQuantified quantifier groups Is)
taken-sound Once groups atom Is allowed count sound text = sound text
taken-sound Optional groups atom Is allowed count sound text =
    every-append _ (atom text) _ (every-weaker (IsSound text Is) _ (atom text) (λ way p. (p.0, inl p.1)) (sound text)) ((refl, inr (refl, refl)), tt)
taken-sound ZeroOrMore groups atom Is allowed count sound text =
    every-append _ (looped true atom text) _
    (every-weaker (IsSound text (AreMoreRounds Is)) _ (looped true atom text) (λ way p. (p.0, (suc p.1.0, p.1.1, p.1.2)))
    (looped-sound atom Is sound (λ t c p. nil_of_zero c (count t c p ∙ allowed)) true text))
    ((refl, (zero, refl, ap (λ n. replicate n None) allowed)), tt)
taken-sound OneOrMore groups atom Is allowed count sound text = looped-sound atom Is sound (λ t c p. nil_of_zero c (count t c p ∙ allowed)) true text
taken-sound LazyOneOrMore groups atom Is allowed count sound text = looped-sound atom Is sound (λ t c p. nil_of_zero c (count t c p ∙ allowed)) false text

pub one_sound : (passes : ℕ → Bool) (Is : List ℕ → Captures → Type 0) → ((c : ℕ) → passes c ≡ true → Is (c ∷ []) []) → AreSound (one_that passes) Is
one_sound passes Is f [] = tt
one_sound passes Is f (c ∷ text) = by (passes c) (f c)
  where
    by : (b : Bool) → (b ≡ true → Is (c ∷ []) []) → Every (IsSound (c ∷ text) Is) (cond b (record { taken = c ∷ []; captures = []; rest = text } ∷ []) [])
    by true g = ((refl, g refl), tt)
    by false g = tt

mutual
  pub ways-sound : (tree : Items) → AreItems tree → AreSound (ways tree) (Means tree)
  ways-sound Nothing h text = ((refl, (refl, refl)), tt)
  ways-sound (Item atom quantifier items) h text =
      let Taken = IsQuantified quantifier (atom_group_count atom) (AtomMeans atom) in
      every-continued (IsSound text Taken) (IsSound text (Means (Item atom quantifier items))) (ways items)
      (quantified_ways quantifier (atom_group_count atom) (atom_ways atom) text)
      (taken-sound quantifier (atom_group_count atom) (atom_ways atom) (AtomMeans atom) h.1 (atom-count atom h.0) (atom-sound atom h.0) text)
      (λ way p. every-weaker (IsSound way.rest (Means items)) _ (ways items way.rest)
      (λ more q. (behind text way more p.0 q.0, (way.taken, more.taken, way.captures, more.captures, refl, refl, p.1, q.1)))
      (ways-sound items h.2 way.rest))

  pub atom-sound : (atom : Atom) → IsAtom atom → AreSound (atom_ways atom) (AtomMeans atom)
  atom-sound (Literal character) h text = one_sound _ (AtomMeans (Literal character)) (λ c e. (ap (λ d. d ∷ []) (eqb-true c (character_of character) e), refl)) text
  atom-sound Dot h text = one_sound _ (AtomMeans Dot) (λ c e. ((c, refl, e), refl)) text
  atom-sound (AnyBut character) h text = one_sound _ (AtomMeans (AnyBut character)) (λ c e. ((c, refl, e), refl)) text
  atom-sound (Captured items) h text =
      every-map _ capturing (ways items text)
      (every-weaker (IsSound text (Means items)) _ (ways items text) (λ way p. (p.0, (way.captures, refl, p.1))) (ways-sound items h text))
  atom-sound (Grouped items) h text = ways-sound items h text
