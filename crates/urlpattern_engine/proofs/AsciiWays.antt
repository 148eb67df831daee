-- Ways that do not differ on ASCII: those of a tree of ASCII, by two tests of characters that are
-- the same there.
use Rattle.std.proofs.Common.{◌≡◌, ℕ, zero, suc, ◌<◌, Bool, true, false, List, [], ◌∷◌, ◌++◌, map, length, cond, if◌then◌else◌, not, refl, ap, ap₂, ◌∙◌, arith}
use Rattle.std.specs.Prelude.{IsAscii}
use Rattle.urlpattern_meaning.specs.Dialect.{Character, Plain, Escaped, character_of, character_text, Quantifier, Once, Optional, ZeroOrMore, OneOrMore, LazyOneOrMore, quantifier_text, Items, Nothing, Item, Atom, Literal, Dot, AnyBut, Captured, Grouped, items_text, atom_text, atom_group_count}
use Rattle.urlpattern_meaning.specs.Ways.{Way, WaysByText, empty_way, joined_way, continued, one_that, ordered, is_shorter, more_rounds, looped, quantified_ways, capturing, ways_as, atom_ways_as}
use Rattle.urlpattern_meaning.proofs.WayLists.{Every, every-append, every-map}

-- ---- texts of ASCII

pub front_ascii : (text more : List ℕ) → IsAscii (text ++ more) → IsAscii text
front_ascii [] more h i = omega arith
front_ascii (c ∷ text) more h zero = h zero
front_ascii (c ∷ text) more h (suc i) = front_ascii text more (λ j. h (suc j)) i

pub rest_ascii : (text more : List ℕ) → IsAscii (text ++ more) → IsAscii more
rest_ascii [] more h = h
rest_ascii (c ∷ text) more h = rest_ascii text more (λ i. h (suc i))

-- ---- lists of ways

-- The lists are equal, and each way leaves ASCII.
abbrev pub Same : (ways others : List Way) → Type 0
Same ways others = (ways ≡ others) × Every (λ way. IsAscii way.rest) ways

-- The choices do not differ on ASCII.
abbrev pub Alike : (choice other : WaysByText) → Type 0
Alike choice other = (text : List ℕ) → IsAscii text → Same (choice text) (other text)

pub same_append : (xs us ys vs : List Way) → Same xs us → Same ys vs → Same (xs ++ ys) (us ++ vs)
same_append xs us ys vs p q = (ap₂ ◌++◌ p.0 q.0, every-append _ xs ys p.1 q.1)

same_ordered : (greedy : Bool) (xs us ys vs : List Way) → Same xs us → Same ys vs → Same (ordered greedy xs ys) (ordered greedy us vs)
same_ordered true xs us ys vs p q = same_append xs us ys vs p q
same_ordered false xs us ys vs p q = same_append ys vs xs us q p

same_cond : (b : Bool) (xs us ys vs : List Way) → Same xs us → Same ys vs → Same (cond b xs ys) (cond b us vs)
same_cond true xs us ys vs p q = p
same_cond false xs us ys vs p q = q

pub alike_empty : (groups : ℕ) → Alike (λ text. empty_way groups text ∷ []) (λ text. empty_way groups text ∷ [])
alike_empty groups text h = (refl, (h, tt))

pub same_capturing : (xs us : List Way) → Same xs us → Same (map capturing xs) (map capturing us)
same_capturing xs us p = (ap (map capturing) p.0, every-map _ capturing xs p.1)

pub alike_one : (passes other : ℕ → Bool) → ((c : ℕ) → c < 128 → passes c ≡ other c) → Alike (one_that passes) (one_that other)
alike_one passes other same [] h = (refl, tt)
alike_one passes other same (c ∷ text) h =
    let ways : Bool → List Way = λ b. cond b (record { taken = c ∷ []; captures = []; rest = text } ∷ []) [] in
    (ap ways (same c (h zero)), by (passes c))
  where
    by : (b : Bool) → Every (λ (way : Way). IsAscii way.rest) (cond b (record { taken = c ∷ []; captures = []; rest = text } ∷ []) [])
    by true = ((λ i. h (suc i)), tt)
    by false = tt

same_continued : (next other : WaysByText) → Alike next other → (ways : List Way) → Every (λ way. IsAscii way.rest) ways → Same (continued next ways) (continued other ways)
same_continued next other alike [] stays = (refl, tt)
same_continued next other alike (way ∷ ways) stays =
    let here = alike way.rest stays.0 in
    same_append (map (joined_way way) (next way.rest)) (map (joined_way way) (other way.rest)) (continued next ways) (continued other ways)
    (ap (map (joined_way way)) here.0, every-map _ (joined_way way) (next way.rest) here.1) (same_continued next other alike ways stays.1)

pub alike_continued : (next other first also : WaysByText) → Alike next other → Alike first also → Alike (λ text. continued next (first text)) (λ text. continued other (also text))
alike_continued next other first also later here text h =
    let own = here text h in
    let all = same_continued next other later (first text) own.1 in
    (all.0 ∙ ap (continued other) own.0, all.1)

-- ---- loops

module _ (greedy : Bool) (atom other : WaysByText) (alike : Alike atom other) where
  alike_rounds : (n : ℕ) → Alike (more_rounds greedy atom n) (more_rounds greedy other n)
  alike_rounds zero text h = (refl, (h, tt))
  alike_rounds (suc n) text h =
      let next : WaysByText = λ rest. if is_shorter rest text then more_rounds greedy atom n rest else [] in
      let also : WaysByText = λ rest. if is_shorter rest text then more_rounds greedy other n rest else [] in
      same_ordered greedy (continued next (atom text)) (continued also (other text)) (empty_way 0 text ∷ []) (empty_way 0 text ∷ [])
      (alike_continued next also atom other
      (λ rest stays. same_cond (is_shorter rest text) (more_rounds greedy atom n rest) (more_rounds greedy other n rest) [] [] (alike_rounds n rest stays) (refl, tt)) alike text h)
      (alike_empty 0 text h)

  pub alike_looped : Alike (looped greedy atom) (looped greedy other)
  alike_looped text h =
      let next : WaysByText = λ rest. if is_shorter rest text then more_rounds greedy atom (length rest) rest else empty_way 0 rest ∷ [] in
      let also : WaysByText = λ rest. if is_shorter rest text then more_rounds greedy other (length rest) rest else empty_way 0 rest ∷ [] in
      alike_continued next also atom other
      (λ rest stays.
      same_cond (is_shorter rest text) (more_rounds greedy atom (length rest) rest) (more_rounds greedy other (length rest) rest) (empty_way 0 rest ∷ []) (empty_way 0 rest ∷ [])
      (alike_rounds (length rest) rest stays) (alike_empty 0 rest stays))
      alike text h

pub alike_quantified : (quantifier : Quantifier) (groups : ℕ) (atom other : WaysByText) → Alike atom other
    → Alike (quantified_ways quantifier groups atom) (quantified_ways quantifier groups other)
alike_quantified Once groups atom other alike text h = alike text h
alike_quantified Optional groups atom other alike text h = same_append _ _ _ _ (alike text h) (alike_empty groups text h)
alike_quantified ZeroOrMore groups atom other alike text h = same_append _ _ _ _ (alike_looped true atom other alike text h) (alike_empty groups text h)
alike_quantified OneOrMore groups atom other alike text h = alike_looped true atom other alike text h
alike_quantified LazyOneOrMore groups atom other alike text h = alike_looped false atom other alike text h

-- ---- trees

character_ascii : (character : Character) → IsAscii (character_text character) → character_of character < 128
character_ascii (Plain c) h = h zero
character_ascii (Escaped c) h = h (suc zero)

-- Two tests of whether a character of a text matches one that is written, which do not differ on
-- ASCII.
module _ (same other : (c written : ℕ) → Bool) (agree : (c written : ℕ) → c < 128 → written < 128 → same c written ≡ other c written) where
  mutual
    pub items_alike : (tree : Items) → IsAscii (items_text tree) → Alike (ways_as same tree) (ways_as other tree)
    items_alike Nothing spelled text h = alike_empty 0 text h
    items_alike (Item atom quantifier items) spelled text h =
        let front = front_ascii (atom_text atom ++ quantifier_text quantifier) (items_text items) spelled in
        alike_continued (ways_as same items) (ways_as other items)
        (quantified_ways quantifier (atom_group_count atom) (atom_ways_as same atom)) (quantified_ways quantifier (atom_group_count atom) (atom_ways_as other atom))
        (items_alike items (rest_ascii (atom_text atom ++ quantifier_text quantifier) (items_text items) spelled))
        (alike_quantified quantifier (atom_group_count atom) (atom_ways_as same atom) (atom_ways_as other atom)
        (atom_alike atom (front_ascii (atom_text atom) (quantifier_text quantifier) front)))
        text h

    atom_alike : (atom : Atom) → IsAscii (atom_text atom) → Alike (atom_ways_as same atom) (atom_ways_as other atom)
    atom_alike (Literal character) spelled text h =
        alike_one _ _ (λ c ascii. agree c (character_of character) ascii (character_ascii character spelled)) text h
    atom_alike Dot spelled text h = alike_one _ _ (λ c ascii. refl) text h
    atom_alike (AnyBut character) spelled text h =
        let written = character_ascii character (front_ascii (character_text character) (93 ∷ []) (λ i. spelled (suc (suc i)))) in
        alike_one _ _ (λ c ascii. ap not (agree c (character_of character) ascii written)) text h
    atom_alike (Captured items) spelled text h =
        same_capturing _ _ (items_alike items (front_ascii (items_text items) (41 ∷ []) (λ i. spelled (suc i))) text h)
    atom_alike (Grouped items) spelled text h =
        items_alike items (front_ascii (items_text items) (41 ∷ []) (λ i. spelled (suc (suc (suc i))))) text h
