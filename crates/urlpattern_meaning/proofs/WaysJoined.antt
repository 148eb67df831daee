-- Ways one after another: items after items, and a fixed text before items.
use Rattle.std.proofs.Common.{◌≡◌, ℕ, List, [], ◌∷◌, ◌++◌, map, length, Option, Some, option_map, find, Bool, true, false, cond, ◌==◌, refl, sym, ap, ap₂, ◌∙◌, append_assoc, append-nil, eq-eqb}
use Rattle.std.proofs.lemmas.Bool.{cond-true}
use Rattle.std.proofs.lemmas.List.{map-append, map-id}
use Rattle.std.proofs.lemmas.Simd.{map-map}
use Rattle.urlpattern_meaning.specs.Dialect.{Items, Nothing, Item, Literal, Once, character_of, atom_group_count}
use Rattle.urlpattern_meaning.specs.PartMeaning.{Captures}
use Rattle.urlpattern_meaning.specs.Ways.{Way, WaysByText, empty_way, joined_way, continued, quantified_ways, ways, ways_as, atom_ways_as, first_way, first_way_by}
use Rattle.urlpattern_meaning.proofs.PartTrees.{character, put}
use Rattle.urlpattern_meaning.proofs.TreeMeaning.{character_same}
use Rattle.urlpattern_meaning.proofs.WaysComplete.{way_of}

-- ---- maps

map-same : {A B : Type 0} (f g : A → B) (xs : List A) → ((x : A) → f x ≡ g x) → map f xs ≡ map g xs
map-same f g [] e = refl
map-same f g (x ∷ xs) e = ap₂ ◌∷◌ (e x) (map-same f g xs e)

-- ---- items after items

continued-same : (next other : WaysByText) (xs : List Way) → ((text : List ℕ) → next text ≡ other text) → continued next xs ≡ continued other xs
continued-same next other [] e = refl
continued-same next other (way ∷ xs) e = ap₂ ◌++◌ (ap (map (joined_way way)) (e way.rest)) (continued-same next other xs e)

continued-both : (next : WaysByText) (xs ys : List Way) → continued next (xs ++ ys) ≡ continued next xs ++ continued next ys
continued-both next [] ys = refl
continued-both next (way ∷ xs) ys =
    ap (λ l. map (joined_way way) (next way.rest) ++ l) (continued-both next xs ys)
    ∙ sym (append_assoc (map (joined_way way) (next way.rest)) (continued next xs) (continued next ys))

joined_thrice : (way next more : Way) → joined_way way (joined_way next more) ≡ joined_way (joined_way way next) more
joined_thrice way next more =
    ap₂ (λ t c. way_of t c more.rest) (sym (append_assoc way.taken next.taken more.taken)) (sym (append_assoc way.captures next.captures more.captures))

joined_all : (way : Way) (next : WaysByText) (xs : List Way) → map (joined_way way) (continued next xs) ≡ continued next (map (joined_way way) xs)
joined_all way next [] = refl
joined_all way next (other ∷ xs) =
    map-append (joined_way way) (map (joined_way other) (next other.rest)) (continued next xs)
    ∙ ap₂ ◌++◌
    (map-map (joined_way way) (joined_way other) (next other.rest)
    ∙ map-same (λ more. joined_way way (joined_way other more)) (joined_way (joined_way way other)) (next other.rest) (joined_thrice way other))
    (joined_all way next xs)

pub continued-twice : (next last : WaysByText) (xs : List Way) → continued (λ text. continued last (next text)) xs ≡ continued last (continued next xs)
continued-twice next last [] = refl
continued-twice next last (way ∷ xs) =
    ap₂ ◌++◌ (joined_all way last (next way.rest)) (continued-twice next last xs)
    ∙ sym (continued-both last (map (joined_way way) (next way.rest)) (continued next xs))

-- The items of both trees.
abbrev pub both_items : Items → Items → Items
both_items Nothing others = others
both_items (Item atom quantifier items) others = Item atom quantifier (both_items items others)

pub both_ways : (same : (c given : ℕ) → Bool) (items others : Items) (text : List ℕ) → ways_as same (both_items items others) text ≡ continued (ways_as same others) (ways_as same items text)
both_ways same Nothing others text =
    sym (append-nil (map (joined_way (empty_way 0 text)) (ways_as same others text)) ∙ map-id (ways_as same others text))
both_ways same (Item atom quantifier items) others text =
    let front = quantified_ways quantifier (atom_group_count atom) (atom_ways_as same atom) text in
    continued-same (ways_as same (both_items items others)) (λ t. continued (ways_as same others) (ways_as same items t)) front (both_ways same items others)
    ∙ continued-twice (ways_as same items) (ways_as same others) front

pub both_put : (marks front : List ℕ) (items others : Items) → put marks front (both_items items others) ≡ both_items (put marks front items) others
both_put marks [] items others = refl
both_put marks (c ∷ front) items others = ap (Item (Literal (character marks c)) Once) (both_put marks front items others)

-- ---- the first way among others

abbrev pub takes_all : Way → Bool
takes_all way = length way.rest == 0

-- The captures of the first of these ways that matches the whole text.
abbrev pub first_of : List Way → Option Captures
first_of xs = option_map (λ way. way.captures) (find takes_all xs)

abbrev pub Seen : Type 0
Seen = Captures × List ℕ

abbrev pub seen_of : Way → Seen
seen_of way = (way.captures, way.rest)

abbrev pub seen : List Way → List Seen
seen xs = map seen_of xs

of_seen : (xs : List Way) → first_of xs ≡ option_map (λ (s : Seen). s.0) (find (λ (s : Seen). length s.1 == 0) (seen xs))
of_seen [] = refl
of_seen (way ∷ xs) = by (takes_all way) (of_seen xs)
  where
    by : (b : Bool) → first_of xs ≡ option_map (λ (s : Seen). s.0) (find (λ (s : Seen). length s.1 == 0) (seen xs))
        → option_map (λ (w : Way). w.captures) (cond b (Some way) (find takes_all xs))
        ≡ option_map (λ (s : Seen). s.0) (cond b (Some (way.captures, way.rest)) (find (λ (s : Seen). length s.1 == 0) (seen xs)))
    by true e = refl
    by false e = e

pub first_seen : (xs ys : List Way) → seen xs ≡ seen ys → first_of xs ≡ first_of ys
first_seen xs ys e = of_seen xs ∙ ap (λ all. option_map (λ (s : Seen). s.0) (find (λ (s : Seen). length s.1 == 0) all)) e ∙ sym (of_seen ys)

-- ---- a fixed text

-- A fixed text before items matches itself.
pub put_ways : (marks front : List ℕ) (items : Items) (text : List ℕ) → seen (ways (put marks front items) (front ++ text)) ≡ seen (ways items text)
put_ways marks [] items text = refl
put_ways marks (c ∷ front) items text =
    let one : Way = record { taken = c ∷ []; captures = []; rest = front ++ text } in
    let here : (c == character_of (character marks c)) ≡ true = eq-eqb c (character_of (character marks c)) (sym (character_same marks c)) in
    ap (λ all. seen (continued (ways (put marks front items)) all)) (cond-true _ (one ∷ []) [] here)
    ∙ ap seen (append-nil (map (joined_way one) (ways (put marks front items) (front ++ text))))
    ∙ map-map seen_of (joined_way one) (ways (put marks front items) (front ++ text))
    ∙ put_ways marks front items text

pub put_first : (marks front : List ℕ) (items : Items) (text : List ℕ) → first_way (put marks front items) (front ++ text) ≡ first_way items text
unfolding first_way_by
put_first marks front items text = first_seen (ways (put marks front items) (front ++ text)) (ways items text) (put_ways marks front items text)
