-- The meanings of a tree are among its ways, whatever text follows.
use Rattle.std.proofs.Common.{◌≡◌, ℕ, zero, suc, ◌≤◌, ◌<◌, List, [], ◌∷◌, ◌++◌, length, Bool, true, false, if◌then◌else◌, not, ◌==◌, refl, sym, ap, subst, append_assoc, length-append, inl, inr, arith, lt-ltb, le-ltb, eq-eqb}
use Rattle.std.proofs.lemmas.Bool.{cond-true, cond-false}
use Rattle.urlpattern_meaning.specs.Dialect.{character_of, Quantifier, Once, Optional, ZeroOrMore, OneOrMore, LazyOneOrMore, Items, Nothing, Item, Atom, Literal, Dot, AnyBut, Captured, Grouped, atom_group_count, AllowsGroups, AreItems, IsAtom, IsQuantified, Means, AtomMeans}
use Rattle.urlpattern_meaning.specs.PartMeaning.{Captures}
use Rattle.urlpattern_syntax.specs.Text.{line_feed, IsRepeated}
use Rattle.urlpattern_meaning.specs.Ways.{Way, WaysByText, empty_way, continued, one_that, is_shorter, more_rounds, looped, quantified_ways, capturing, ways, atom_ways}
use Rattle.urlpattern_meaning.proofs.WayLists.{Has, has-left, has-right, has-map, has-round, has-leave, has-continued}

abbrev pub way_of : List ℕ → Captures → List ℕ → Way
way_of taken captures rest = record { taken = taken; captures = captures; rest = rest }

-- Each beginning of a text that `IsA` allows is among the ways of that text.
abbrev pub IsComplete : WaysByText → (List ℕ → Captures → Type 0) → Type 0
IsComplete choice IsA = (taken : List ℕ) (captures : Captures) (rest : List ℕ) → IsA taken captures → Has (way_of taken captures rest) (choice (taken ++ rest))

-- A meaning, and one of the rest.
has-behind : (next : WaysByText) (ways : WaysByText) (first later : List ℕ) (own others : Captures) (rest : List ℕ)
    → Has (way_of first own (later ++ rest)) (ways (first ++ (later ++ rest))) → Has (way_of later others rest) (next (later ++ rest))
    → Has (way_of (first ++ later) (own ++ others) rest) (continued next (ways ((first ++ later) ++ rest)))
has-behind next ways first later own others rest p q =
    subst (λ (t : List ℕ). Has (way_of (first ++ later) (own ++ others) rest) (continued next (ways t))) (sym (append_assoc first later rest))
    (has-continued next (way_of first own (later ++ rest)) (way_of later others rest) (ways (first ++ (later ++ rest))) p q)

module _ (atom : WaysByText) (IsA : List ℕ → Captures → Type 0) (complete : IsComplete atom IsA) where
  -- A round that matches something, and more rounds.
  round_here : (greedy : Bool) (m : ℕ) (c : ℕ) (first later rest : List ℕ) → IsA (c ∷ first) []
      → Has (way_of later [] rest) (more_rounds greedy atom m (later ++ rest))
      → Has (way_of ((c ∷ first) ++ later) [] rest) (more_rounds greedy atom (suc m) (((c ∷ first) ++ later) ++ rest))
  round_here greedy m c first later rest p h =
      let text = ((c ∷ first) ++ later) ++ rest in
      let longer : length (later ++ rest) < length text = omega (arith, length-append first later, length-append (first ++ later) rest, length-append later rest) in
      has-round _ greedy _ _
      (has-behind (λ r. if is_shorter r text then more_rounds greedy atom m r else []) atom (c ∷ first) later [] [] rest (complete (c ∷ first) [] (later ++ rest) p)
      (subst (Has (way_of later [] rest)) (sym (cond-true _ (more_rounds greedy atom m (later ++ rest)) [] (lt-ltb _ _ longer))) h))

  leaves : (greedy : Bool) (m : ℕ) (rest : List ℕ) → Has (way_of [] [] rest) (more_rounds greedy atom (suc m) rest)
  leaves greedy m rest =
      let round = continued (λ r. if is_shorter r rest then more_rounds greedy atom m r else []) (atom rest) in
      has-leave (way_of [] [] rest) greedy round (empty_way 0 rest ∷ []) (inl refl)

  more_rounds-complete : (greedy : Bool) (n : ℕ) (taken rest : List ℕ) (m : ℕ) → length taken ≤ m → IsRepeated (λ substring. IsA substring []) n taken
      → Has (way_of taken [] rest) (more_rounds greedy atom m (taken ++ rest))
  more_rounds-complete greedy zero taken rest zero le e = rw e (inl refl)
  more_rounds-complete greedy zero taken rest (suc m) le e = rw e (leaves greedy m rest)
  more_rounds-complete greedy (suc n) taken rest m le ([], later, e, p, q) = more_rounds-complete greedy n taken rest m le (subst (IsRepeated (λ substring. IsA substring []) n) (sym e) q)
  more_rounds-complete greedy (suc n) taken rest zero le (c ∷ first, later, e, p, q) = absurd (omega (arith, ap length e))
  more_rounds-complete greedy (suc n) taken rest (suc m) le (c ∷ first, later, e, p, q) =
      let fits : length later ≤ m = omega (arith, ap length e, length-append first later) in
      rw e (round_here greedy m c first later rest p (more_rounds-complete greedy n later rest m fits q))

  -- A loop whose first round matches something.
  loop_here : (greedy : Bool) (n : ℕ) (c : ℕ) (first later rest : List ℕ) → IsA (c ∷ first) [] → IsRepeated (λ substring. IsA substring []) n later
      → Has (way_of ((c ∷ first) ++ later) [] rest) (looped greedy atom (((c ∷ first) ++ later) ++ rest))
  loop_here greedy n c first later rest p q =
      let text = ((c ∷ first) ++ later) ++ rest in
      let longer : length (later ++ rest) < length text = omega (arith, length-append first later, length-append (first ++ later) rest, length-append later rest) in
      has-behind (λ r. if is_shorter r text then more_rounds greedy atom (length r) r else empty_way 0 r ∷ []) atom (c ∷ first) later [] [] rest (complete (c ∷ first) [] (later ++ rest) p)
      (subst (Has (way_of later [] rest)) (sym (cond-true _ (more_rounds greedy atom (length (later ++ rest)) (later ++ rest)) (empty_way 0 (later ++ rest) ∷ []) (lt-ltb _ _ longer)))
      (more_rounds-complete greedy n later rest (length (later ++ rest)) (omega (arith, length-append later rest)) q))

  -- A loop of one empty round.
  nothing_here : (greedy : Bool) (rest : List ℕ) → IsA [] [] → Has (way_of [] [] rest) (looped greedy atom rest)
  nothing_here greedy rest p =
      has-behind (λ r. if is_shorter r rest then more_rounds greedy atom (length r) r else empty_way 0 r ∷ []) atom [] [] [] [] rest (complete [] [] rest p)
      (subst (Has (way_of [] [] rest)) (sym (cond-false (is_shorter rest rest) (more_rounds greedy atom (length rest) rest) (empty_way 0 rest ∷ []) (le-ltb _ _ (omega arith)))) (inl refl))

  looped-complete : (greedy : Bool) (n : ℕ) (taken rest : List ℕ) → IsRepeated (λ substring. IsA substring []) (suc n) taken
      → Has (way_of taken [] rest) (looped greedy atom (taken ++ rest))
  looped-complete greedy n taken rest (c ∷ first, later, e, p, q) = rw e (loop_here greedy n c first later rest p q)
  looped-complete greedy zero taken rest ([], later, e, p, q) = rw (e, q) (nothing_here greedy rest p)
  looped-complete greedy (suc n) taken rest ([], later, e, p, q) =
      looped-complete greedy n taken rest (subst (IsRepeated (λ substring. IsA substring []) (suc n)) (sym e) q)

-- ---- atoms and items

pub taken-complete : (quantifier : Quantifier) (groups : ℕ) (atom : WaysByText) (Is : List ℕ → Captures → Type 0) → AllowsGroups quantifier groups
    → IsComplete atom Is → IsComplete (quantified_ways quantifier groups atom) (IsQuantified quantifier groups Is)
taken-complete Once groups atom Is allowed complete taken captures rest m = complete taken captures rest m
taken-complete Optional groups atom Is allowed complete taken captures rest (inl m) = has-left _ (atom (taken ++ rest)) _ (complete taken captures rest m)
taken-complete Optional groups atom Is allowed complete taken captures rest (inr m) = has-right _ (atom (taken ++ rest)) _ (inl (rw (m.0, m.1) refl))
taken-complete ZeroOrMore groups atom Is allowed complete taken captures rest (zero, e, f) =
    has-right _ (looped true atom (taken ++ rest)) _ (inl (rw (e, f, allowed) refl))
taken-complete ZeroOrMore groups atom Is allowed complete taken captures rest (suc n, e, f) =
    has-left _ (looped true atom (taken ++ rest)) _ (rw f (looped-complete atom Is complete true n taken rest e))
taken-complete OneOrMore groups atom Is allowed complete taken captures rest (n, e, f) = rw f (looped-complete atom Is complete true n taken rest e)
taken-complete LazyOneOrMore groups atom Is allowed complete taken captures rest (n, e, f) = rw f (looped-complete atom Is complete false n taken rest e)

pub one_complete : (passes : ℕ → Bool) (c : ℕ) (rest : List ℕ) → passes c ≡ true → Has (way_of (c ∷ []) [] rest) (one_that passes (c ∷ rest))
one_complete passes c rest e = subst (Has (way_of (c ∷ []) [] rest)) (sym (cond-true (passes c) (way_of (c ∷ []) [] rest ∷ []) [] e)) (inl refl)

mutual
  pub ways-complete : (tree : Items) → AreItems tree → IsComplete (ways tree) (Means tree)
  ways-complete Nothing h taken captures rest m = rw (m.0, m.1) (inl refl)
  ways-complete (Item atom quantifier items) h taken captures rest (first, later, own, others, e, f, m, n) =
      rw (e, f)
      (has-behind (ways items) (quantified_ways quantifier (atom_group_count atom) (atom_ways atom)) first later own others rest
      (taken-complete quantifier (atom_group_count atom) (atom_ways atom) (AtomMeans atom) h.1 (atom-complete atom h.0) first own (later ++ rest) m)
      (ways-complete items h.2 later others rest n))

  pub atom-complete : (atom : Atom) → IsAtom atom → IsComplete (atom_ways atom) (AtomMeans atom)
  atom-complete (Literal character) h taken captures rest m = rw (m.0, m.1) (one_complete (λ c. c == character_of character) (character_of character) rest (eq-eqb (character_of character) (character_of character) refl))
  atom-complete Dot h taken captures rest m = rw (m.0.1, m.1) (one_complete (λ c. not (c == line_feed)) m.0.0 rest m.0.2)
  atom-complete (AnyBut character) h taken captures rest m = rw (m.0.1, m.1) (one_complete (λ c. not (c == character_of character)) m.0.0 rest m.0.2)
  atom-complete (Captured items) h taken captures rest m = rw (m.1) (has-map capturing (way_of taken m.0 rest) (ways items (taken ++ rest)) (ways-complete items h taken m.0 rest m.2))
  atom-complete (Grouped items) h taken captures rest m = ways-complete items h taken captures rest m
