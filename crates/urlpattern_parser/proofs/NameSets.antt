-- Lemmas on the set of names, with one name more.
use Rattle.std.proofs.Common.{◌≡◌, ℕ, Bool, true, false, List, [], ◌∷◌, ◌++◌, Ordering, Less, Equal, Greater, refl, sym, ap, ◌∙◌, rules}
use Rattle.std.specs.Prelude.{◌||◌, bytes_eq}
use Rattle.std.specs.Borrow.{Bor}
use Rattle.std.specs.BTreeSet.{BTreeSet, insert_key}
use Rattle.std.specs.Cmp.Lexicographic.{slice_cmp}
use Rattle.std.specs.List.{list_any}
use Rattle.std.specs.Ordering.{is_eq, match_ordering, nat_cmp}
use Rattle.std.proofs.lemmas.Map.Lookups.{exact_bytes}
use Rattle.std.proofs.lemmas.List.Folds.{list_any-append}
use Rattle.std.proofs.lemmas.Map.Text.{is_eq-slice_cmp}
use Rattle.urlpattern_parser.specs.declared.parser.given_names.GivenNames.{GivenNames}
use Rattle.urlpattern_parser.specs.GivenNames.{has_name, has_bytes}

-- The order of names.
abbrev text_cmp : Bor (List ℕ) → Bor (List ℕ) → Ordering
text_cmp x y = slice_cmp nat_cmp x.now y.now

abbrev is_there : List ℕ → Bor (List ℕ) → Bool
is_there bytes text = is_eq (slice_cmp nat_cmp bytes text.now)

there_is : (bytes : List ℕ) (text : Bor (List ℕ)) → is_there bytes text ≡ has_bytes bytes text
there_is bytes text = is_eq-slice_cmp bytes text.now ∙ turned
  where
    turned : bytes_eq bytes text.now ≡ bytes_eq text.now bytes
    turned = search rules

equal_texts : (bytes : List ℕ) (x y : Bor (List ℕ)) → text_cmp x y ≡ Equal → is_there bytes x ≡ is_there bytes y
equal_texts bytes x y e = ap (λ z. is_eq (slice_cmp nat_cmp bytes z)) same
  where
    same : x.now ≡ y.now
    same = exact_bytes x.now y.now e

or_twice : (a b : Bool) → (a || (a || b)) ≡ (a || b)
or_twice true b = refl
or_twice false b = refl

or_exchanged : (a b c : Bool) → (b || (a || c)) ≡ (a || (b || c))
or_exchanged true true c = refl
or_exchanged true false c = refl
or_exchanged false b c = refl

inserted : (bytes : List ℕ) (name : Bor (List ℕ)) (keys : List (Bor (List ℕ))) → list_any (is_there bytes) (insert_key text_cmp keys name) ≡ (is_there bytes name || list_any (is_there bytes) keys)
inserted bytes name [] = refl
inserted bytes name (x ∷ keys) = by_order (text_cmp name x) refl (inserted bytes name keys)
  where
    by_order : (order : Ordering) → text_cmp name x ≡ order → list_any (is_there bytes) (insert_key text_cmp keys name) ≡ (is_there bytes name || list_any (is_there bytes) keys)
        → list_any (is_there bytes) (match_ordering order (name ∷ x ∷ keys) (x ∷ keys) (x ∷ insert_key text_cmp keys name)) ≡ (is_there bytes name || list_any (is_there bytes) (x ∷ keys))
    by_order Less e more = refl
    by_order Equal e more = sym (ap (λ b. b || (is_there bytes x || list_any (is_there bytes) keys)) (equal_texts bytes name x e) ∙ or_twice (is_there bytes x) (list_any (is_there bytes) keys))
    by_order Greater e more = ap (λ b. is_there bytes x || b) more ∙ or_exchanged (is_there bytes name) (is_there bytes x) (list_any (is_there bytes) keys)

pub others_more : (old : GivenNames) (bytes : List ℕ) (name : Bor (List ℕ)) (others : BTreeSet (Bor (List ℕ))) → others.keys ≡ insert_key text_cmp old.others.keys name →
    has_name (record { few = old.few; others = others }) bytes ≡ (has_bytes bytes name || has_name old bytes)
others_more old bytes name others e =
    ap (λ keys. list_any (has_bytes bytes) old.few.items || list_any (is_there bytes) keys) e
    ∙ ap (λ b. list_any (has_bytes bytes) old.few.items || b) (inserted bytes name old.others.keys)
    ∙ or_exchanged (is_there bytes name) (list_any (has_bytes bytes) old.few.items) (list_any (is_there bytes) old.others.keys)
    ∙ ap (λ b. b || (list_any (has_bytes bytes) old.few.items || list_any (is_there bytes) old.others.keys)) (there_is bytes name)

pub few_more : (old : GivenNames) (bytes : List ℕ) (name : Bor (List ℕ)) (items : List (Bor (List ℕ))) → items ≡ old.few.items ++ name ∷ [] →
    (list_any (has_bytes bytes) items || list_any (is_there bytes) old.others.keys) ≡ (has_bytes bytes name || has_name old bytes)
few_more old bytes name items e =
    ap (λ x. list_any (has_bytes bytes) x || list_any (is_there bytes) old.others.keys) e
    ∙ ap (λ b. b || list_any (is_there bytes) old.others.keys) (list_any-append (has_bytes bytes) old.few.items (name ∷ []))
    ∙ moved (list_any (has_bytes bytes) old.few.items) (has_bytes bytes name) (list_any (is_there bytes) old.others.keys)
  where
    moved : (a b c : Bool) → ((a || (b || false)) || c) ≡ (b || (a || c))
    moved true true c = refl
    moved true false c = refl
    moved false true c = refl
    moved false false c = refl
