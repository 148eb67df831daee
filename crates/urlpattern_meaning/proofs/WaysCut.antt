-- The ways of a tree in a text, and in the text with another after it: those that match nothing of
-- the other.
use Rattle.std.proofs.Common.{◌≡◌, ℕ, zero, suc, ◌≤◌, ◌<◌, List, [], ◌∷◌, ◌++◌, map, length, Bool, true, false, cond, if◌then◌else◌, nat_lt, not, ◌==◌, refl, sym, ap, ◌∙◌, subst, length-append, inl, inr, ◌⊎◌, arith, lt-ltb, le-ltb, ⊎_elim}
use Rattle.std.proofs.lemmas.Bool.{cases_Bool, cond-false, ltb-false, ltb-true}
use Rattle.urlpattern_meaning.specs.Dialect.{character_of, Quantifier, Once, Optional, ZeroOrMore, OneOrMore, LazyOneOrMore, Items, Nothing, Item, Atom, Literal, Dot, AnyBut, Captured, Grouped, atom_group_count, AreItems, IsAtom, Means, AtomMeans}
use Rattle.urlpattern_meaning.specs.PartMeaning.{Captures}
use Rattle.urlpattern_syntax.specs.Text.{line_feed}
use Rattle.urlpattern_meaning.specs.Ways.{Way, WaysByText, empty_way, joined_way, continued, one_that, ordered, is_shorter, more_rounds, looped, quantified_ways, capturing, ways, atom_ways}
use Rattle.urlpattern_meaning.proofs.WayLists.{Every, every-weaker, every-cond, every-ordered, every-continued}
use Rattle.urlpattern_meaning.proofs.WaysSound.{IsSound, ways-sound, atom-sound}

-- No way leaves more than the text.
abbrev pub Falls : WaysByText → Type 0
Falls choice = (text : List ℕ) → Every (λ way. length way.rest ≤ length text) (choice text)

rounds-fall : (greedy : Bool) (atom : WaysByText) → Falls atom → (n : ℕ) → Falls (more_rounds greedy atom n)
rounds-fall greedy atom falls zero text = (omega arith, tt)
rounds-fall greedy atom falls (suc n) text =
    every-ordered (λ way. length way.rest ≤ length text) greedy _ _
    (every-continued (λ way. length way.rest ≤ length text) (λ way. length way.rest ≤ length text) _ (atom text) (falls text)
    (λ way p. every-cond _ (is_shorter way.rest text) _ _
    (every-weaker (λ more. length more.rest ≤ length way.rest) _ _ (λ more q. omega (arith, p, q)) (rounds-fall greedy atom falls n way.rest)) tt))
    (omega arith, tt)

sound-falls : (text : List ℕ) (IsA : List ℕ → Captures → Type 0) (xs : List Way) → Every (IsSound text IsA) xs → Every (λ way. length way.rest ≤ length text) xs
sound-falls text IsA xs every =
    every-weaker (IsSound text IsA) _ xs (λ way p. omega (arith, ap length p.0, length-append way.taken way.rest)) every

module _ (s : List ℕ) where
  -- The way with `s` after its rest.
  abbrev pub longer : Way → Way
  longer way = record way { rest = way.rest ++ s }

  -- The ways in the longer text that leave `s` are the ways in the shorter text, in order.
  abbrev pub Cut : List Way → List Way → Type 0
  Cut [] short = short ≡ []
  Cut (way ∷ long) short =
      ((length way.rest < length s) × Cut long short)
      ⊎ ((other : Way) × (others : List Way) × (short ≡ other ∷ others) × (way ≡ longer other) × Cut long others)

  pub cut-append : (xs ys us vs : List Way) → Cut xs us → Cut ys vs → Cut (xs ++ ys) (us ++ vs)
  cut-append [] ys us vs e q = rw e q
  cut-append (way ∷ xs) ys us vs (inl (less, p)) q = inl (less, cut-append xs ys us vs p q)
  cut-append (way ∷ xs) ys us vs (inr (other, others, e, f, p)) q =
      inr (other, others ++ vs, ap (λ l. l ++ vs) e, f, cut-append xs ys others vs p q)

  pub cut-map : (f g : Way → Way) → ((way : Way) → (f way).rest ≡ way.rest) → ((way : Way) → f (longer way) ≡ longer (g way))
      → (xs us : List Way) → Cut xs us → Cut (map f xs) (map g us)
  cut-map f g rests same [] us e = ap (map g) e
  cut-map f g rests same (way ∷ xs) us (inl (less, p)) =
      inl (subst (λ r. length r < length s) (sym (rests way)) less, cut-map f g rests same xs us p)
  cut-map f g rests same (way ∷ xs) us (inr (other, others, e, h, p)) =
      inr (g other, map g others, ap (map g) e, ap f h ∙ same other, cut-map f g rests same xs others p)

  -- Ways that leave less are not among the others.
  cut-none : (xs : List Way) → Every (λ way. length way.rest < length s) xs → Cut xs []
  cut-none [] every = refl
  cut-none (way ∷ xs) every = inl (every.0, cut-none xs every.1)

  cut-over : (f : Way → Way) → ((way : Way) → (f way).rest ≡ way.rest) → (ms xs us : List Way) → Every (λ way. length way.rest < length s) ms → Cut xs us → Cut (map f ms ++ xs) us
  cut-over f rests [] xs us every p = p
  cut-over f rests (m ∷ ms) xs us every p =
      inl (subst (λ r. length r < length s) (sym (rests m)) every.0, cut-over f rests ms xs us every.1 p)

  abbrev pub IsCut : WaysByText → WaysByText → Type 0
  IsCut next short = (inner : List ℕ) → Cut (next (inner ++ s)) (short inner)

  pub cut-continued : (next short : WaysByText) → Falls next → IsCut next short → (xs us : List Way) → Cut xs us → Cut (continued next xs) (continued short us)
  cut-continued next short falls cut [] us e = ap (continued short) e
  cut-continued next short falls cut (way ∷ xs) us (inl (less, p)) =
      cut-over (joined_way way) (λ more. refl) (next way.rest) (continued next xs) (continued short us)
      (every-weaker (λ more. length more.rest ≤ length way.rest) _ (next way.rest) (λ more q. omega (arith, q, less)) (falls way.rest))
      (cut-continued next short falls cut xs us p)
  cut-continued next short falls cut (way ∷ xs) us (inr (other, others, e, f, p)) =
      let here : Cut (map (joined_way (longer other)) (next (longer other).rest) ++ continued next xs) (map (joined_way other) (short other.rest) ++ continued short others) =
      cut-append (map (joined_way (longer other)) (next (longer other).rest)) (continued next xs) (map (joined_way other) (short other.rest)) (continued short others)
      (cut-map (joined_way (longer other)) (joined_way other) (λ more. refl) (λ more. refl) (next (longer other).rest) (short other.rest) (cut other.rest))
      (cut-continued next short falls cut xs others p) in
      subst (λ (l : List Way). Cut (continued next (way ∷ xs)) (continued short l)) (sym e)
      (subst (λ (w : Way). Cut (continued next (w ∷ xs)) (continued short (other ∷ others))) (sym f) here)

  cut-ordered : (greedy : Bool) (xs ys us vs : List Way) → Cut xs us → Cut ys vs → Cut (ordered greedy xs ys) (ordered greedy us vs)
  cut-ordered true xs ys us vs p q = cut-append xs ys us vs p q
  cut-ordered false xs ys us vs p q = cut-append ys xs vs us q p

  pub cut-empty_way : (groups : ℕ) (inner : List ℕ) → Cut (empty_way groups (inner ++ s) ∷ []) (empty_way groups inner ∷ [])
  cut-empty_way groups inner = inr (empty_way groups inner, [], refl, refl, refl)

  -- ---- characters

  one-falls : (passes : ℕ → Bool) (text : List ℕ) → Every (λ way. length way.rest < length text) (one_that passes text)
  one-falls passes [] = tt
  one-falls passes (c ∷ text) = every-cond _ (passes c) _ _ (omega arith, tt) tt

  pub one-cut : (passes : ℕ → Bool) → IsCut (one_that passes) (one_that passes)
  one-cut passes [] = cut-none (one_that passes s) (one-falls passes s)
  one-cut passes (c ∷ inner) = by (passes c)
    where
      by : (b : Bool) → Cut (cond b (record { taken = c ∷ []; captures = []; rest = inner ++ s } ∷ []) []) (cond b (record { taken = c ∷ []; captures = []; rest = inner } ∷ []) [])
      by true = inr (record { taken = c ∷ []; captures = []; rest = inner }, [], refl, refl, refl)
      by false = refl

  -- ---- loops

  shorter-same : (rest inner : List ℕ) → is_shorter (rest ++ s) (inner ++ s) ≡ is_shorter rest inner
  shorter-same rest inner =
      ⊎_elim
      (λ (yes : is_shorter rest inner ≡ true). lt-ltb _ _ (omega (arith, less yes, length-append rest s, length-append inner s)) ∙ sym yes)
      (λ (no : is_shorter rest inner ≡ false). le-ltb _ _ (omega (arith, not_less no, length-append rest s, length-append inner s)) ∙ sym no)
      (cases_Bool (is_shorter rest inner))
    where
      less : nat_lt (length rest) (length inner) ≡ true → length rest < length inner
      less e = ltb-true _ _ e

      not_less : nat_lt (length rest) (length inner) ≡ false → length inner ≤ length rest
      not_less e = ltb-false _ _ e

  module _ (greedy : Bool) (atom : WaysByText) (falls : Falls atom) (cut : IsCut atom atom) where
    -- The ways after a round are cut as those of `long` and `none` are.
    goes_on : (long short none : List ℕ → List Way) (inner : List ℕ) → IsCut none none
        → ((rest : List ℕ) → length rest < length inner → Cut (long (rest ++ s)) (short rest))
        → IsCut (λ rest. if is_shorter rest (inner ++ s) then long rest else none rest) (λ rest. if is_shorter rest inner then short rest else none rest)
    goes_on long short none inner stops goes rest = by (is_shorter rest inner) (is_shorter (rest ++ s) (inner ++ s)) (shorter-same rest inner) refl
      where
        by : (b c : Bool) → c ≡ b → is_shorter rest inner ≡ b → Cut (cond c (long (rest ++ s)) (none (rest ++ s))) (cond b (short rest) (none rest))
        by true true e f = goes rest (ltb-true _ _ f)
        by false false e f = stops rest
        by true false e f = absurd cc
        by false true e f = absurd cc

    no_more : (xs : List Way) → (next : WaysByText) → ((rest : List ℕ) → next rest ≡ []) → continued next xs ≡ []
    no_more [] next none = refl
    no_more (way ∷ xs) next none = rw (none way.rest) (no_more xs next none)

    -- In the empty text no round follows, however many are allowed.
    rounds-over : (n : ℕ) → more_rounds greedy atom n [] ≡ empty_way 0 [] ∷ []
    rounds-over zero = refl
    rounds-over (suc n) =
        ap (λ going_on. ordered greedy going_on (empty_way 0 [] ∷ []))
        (no_more (atom []) (λ rest. if is_shorter rest [] then more_rounds greedy atom n rest else [])
        (λ rest. cond-false (is_shorter rest []) (more_rounds greedy atom n rest) [] (le-ltb (length rest) 0 (omega arith))))
        ∙ either greedy
      where
        either : (b : Bool) → ordered b [] (empty_way 0 [] ∷ []) ≡ empty_way 0 [] ∷ []
        either true = refl
        either false = refl

    one_more : (n m : ℕ) (inner : List ℕ) → ((rest : List ℕ) → length rest < length inner → Cut (more_rounds greedy atom n (rest ++ s)) (more_rounds greedy atom m rest))
        → Cut (more_rounds greedy atom (suc n) (inner ++ s)) (more_rounds greedy atom (suc m) inner)
    one_more n m inner goes =
        cut-ordered greedy _ _ _ _
        (cut-continued _ _ (λ text. every-cond _ (is_shorter text (inner ++ s)) _ _ (rounds-fall greedy atom falls n text) tt)
        (goes_on (more_rounds greedy atom n) (more_rounds greedy atom m) (λ rest. []) inner (λ rest. refl) goes) (atom (inner ++ s)) (atom inner) (cut inner))
        (cut-empty_way 0 inner)

    rounds-cut : (n m : ℕ) (inner : List ℕ) → length inner ≤ n → length inner ≤ m → Cut (more_rounds greedy atom n (inner ++ s)) (more_rounds greedy atom m inner)
    rounds-cut zero m [] le ge = subst (Cut (empty_way 0 s ∷ [])) (sym (rounds-over m)) (cut-empty_way 0 [])
    rounds-cut zero m (c ∷ inner) le ge = absurd (omega arith)
    rounds-cut (suc n) zero (c ∷ inner) le ge = absurd (omega arith)
    rounds-cut (suc n) zero [] le ge =
        subst (Cut (more_rounds greedy atom (suc n) s)) (rounds-over (suc zero) ∙ sym (rounds-over zero)) (one_more n zero [] (λ rest less. absurd (omega arith)))
    rounds-cut (suc n) (suc m) inner le ge = one_more n m inner (λ rest less. rounds-cut n m rest (omega arith) (omega arith))

    loop-cut : IsCut (looped greedy atom) (looped greedy atom)
    loop-cut inner =
        cut-continued _ _ (λ text. every-cond _ (is_shorter text (inner ++ s)) _ _ (rounds-fall greedy atom falls (length text) text) (omega arith, tt))
        (goes_on (λ rest. more_rounds greedy atom (length rest) rest) (λ rest. more_rounds greedy atom (length rest) rest) (λ rest. empty_way 0 rest ∷ []) inner (cut-empty_way 0)
        (λ rest less. rounds-cut (length (rest ++ s)) (length rest) rest (omega (arith, length-append rest s)) (omega arith)))
        (atom (inner ++ s)) (atom inner) (cut inner)

  -- ---- atoms and items

  pub taken-cut : (quantifier : Quantifier) (groups : ℕ) (atom : WaysByText) → Falls atom → IsCut atom atom → IsCut (quantified_ways quantifier groups atom) (quantified_ways quantifier groups atom)
  taken-cut Once groups atom falls cut inner = cut inner
  taken-cut Optional groups atom falls cut inner = cut-append (atom (inner ++ s)) _ (atom inner) _ (cut inner) (cut-empty_way groups inner)
  taken-cut ZeroOrMore groups atom falls cut inner =
      cut-append (looped true atom (inner ++ s)) _ (looped true atom inner) _ (loop-cut true atom falls cut inner) (cut-empty_way groups inner)
  taken-cut OneOrMore groups atom falls cut inner = loop-cut true atom falls cut inner
  taken-cut LazyOneOrMore groups atom falls cut inner = loop-cut false atom falls cut inner

  mutual
    pub items-cut : (tree : Items) → AreItems tree → IsCut (ways tree) (ways tree)
    items-cut Nothing h inner = cut-empty_way 0 inner
    items-cut (Item atom quantifier items) h inner =
        cut-continued (ways items) (ways items) (λ text. sound-falls text (Means items) (ways items text) (ways-sound items h.2 text)) (items-cut items h.2) _ _
        (taken-cut quantifier (atom_group_count atom) (atom_ways atom) (λ text. sound-falls text (AtomMeans atom) (atom_ways atom text) (atom-sound atom h.0 text)) (atom-cut atom h.0) inner)

    atom-cut : (atom : Atom) → IsAtom atom → IsCut (atom_ways atom) (atom_ways atom)
    atom-cut (Literal character) h inner = one-cut (λ c. c == character_of character) inner
    atom-cut Dot h inner = one-cut (λ c. not (c == line_feed)) inner
    atom-cut (AnyBut character) h inner = one-cut (λ c. not (c == character_of character)) inner
    atom-cut (Captured items) h inner = cut-map capturing capturing (λ way. refl) (λ way. refl) (ways items (inner ++ s)) (ways items inner) (items-cut items h inner)
    atom-cut (Grouped items) h inner = items-cut items h inner
