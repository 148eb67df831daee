-- Texts that are equal up to case, character by character.
use Rattle.std.proofs.Common.{◌≡◌, ℕ, Bool, true, false, List, [], ◌∷◌, ◌++◌, ◌+◌, length, map, ◌⊎◌, inl, inr, Option, Some, None, eq-eqb, eqb-true, refl, sym, ap, ap₂, ◌∙◌, subst, length-append}
use Rattle.std.specs.Prelude.{IfNone}
use Rattle.urlpattern_meaning.proofs.Middles.{same-length}
use Rattle.std.proofs.lemmas.Bool.{false≢true}
use Rattle.std.specs.Char.{to_ascii_lowercase}
use Rattle.urlpattern_meaning.specs.Matching.{IsSame, is_same_character}
use Rattle.urlpattern_steps.specs.Walk.{BeginsAs}

-- ---- whole texts

pub none_same : (ignore_case : Bool) (text : List ℕ) → IsSame ignore_case text [] → text ≡ []
none_same ignore_case [] same = refl
none_same true (c ∷ text) same = let e : (to_ascii_lowercase c ∷ map to_ascii_lowercase text) ≡ [] = same in cc
none_same false (c ∷ text) same = same

pub no_same : (ignore_case : Bool) (c : ℕ) (characters : List ℕ) → ¬ IsSame ignore_case [] (c ∷ characters)
no_same true c characters same = let e : [] ≡ to_ascii_lowercase c ∷ map to_ascii_lowercase characters = same in cc
no_same false c characters same = let e : [] ≡ c ∷ characters = same in cc

pub same_more : (ignore_case : Bool) (d c : ℕ) (front characters : List ℕ) → is_same_character ignore_case d c ≡ true → IsSame ignore_case front characters → IsSame ignore_case (d ∷ front) (c ∷ characters)
same_more true d c front characters one others = ap₂ (λ x l. x ∷ l) (eqb-true (to_ascii_lowercase d) (to_ascii_lowercase c) one) others
same_more false d c front characters one others = ap₂ (λ x l. x ∷ l) (eqb-true d c one) others

pub same_less : (ignore_case : Bool) (d c : ℕ) (front characters : List ℕ) → IsSame ignore_case (d ∷ front) (c ∷ characters) → (is_same_character ignore_case d c ≡ true) × IsSame ignore_case front characters
same_less true d c front characters same =
    let whole : to_ascii_lowercase d ∷ map to_ascii_lowercase front ≡ to_ascii_lowercase c ∷ map to_ascii_lowercase characters = same in
    let first : to_ascii_lowercase d ≡ to_ascii_lowercase c = cc in
    let others : map to_ascii_lowercase front ≡ map to_ascii_lowercase characters = cc in
    (eq-eqb (to_ascii_lowercase d) (to_ascii_lowercase c) first, others)
same_less false d c front characters same =
    let whole : d ∷ front ≡ c ∷ characters = same in
    let first : d ≡ c = cc in
    let others : front ≡ characters = cc in
    (eq-eqb d c first, others)

-- ---- texts at the start

pub begins_more : (ignore_case : Bool) (c : ℕ) (characters : List ℕ) (d : ℕ) (text rest : List ℕ) → is_same_character ignore_case d c ≡ true → BeginsAs ignore_case characters text rest
    → BeginsAs ignore_case (c ∷ characters) (d ∷ text) rest
begins_more ignore_case c characters d text rest one (front, cut, same) = (d ∷ front, ap (λ t. d ∷ t) cut, same_more ignore_case d c front characters one same)

pub begins_less : (ignore_case : Bool) (c : ℕ) (characters : List ℕ) (d : ℕ) (text rest : List ℕ) → BeginsAs ignore_case (c ∷ characters) (d ∷ text) rest
    → (is_same_character ignore_case d c ≡ true) × BeginsAs ignore_case characters text rest
begins_less ignore_case c characters d text rest ([], cut, same) = absurd (no_same ignore_case c characters same)
begins_less ignore_case c characters d text rest (e ∷ front, cut, same) =
    let whole : d ∷ text ≡ e ∷ (front ++ rest) = cut in
    let first : d ≡ e = cc in
    let others : text ≡ front ++ rest = cc in
    let both = same_less ignore_case e c front characters same in
    (subst (λ x. is_same_character ignore_case x c ≡ true) (sym first) both.0, (front, others, both.1))

pub begins_none : (ignore_case : Bool) (c : ℕ) (characters rest : List ℕ) → ¬ BeginsAs ignore_case (c ∷ characters) [] rest
begins_none ignore_case c characters rest ([], cut, same) = no_same ignore_case c characters same
begins_none ignore_case c characters rest (e ∷ front, cut, same) = let whole : [] ≡ e ∷ (front ++ rest) = cut in cc

-- A single character.
pub begins_one : (ignore_case : Bool) (c : ℕ) (text rest : List ℕ) → BeginsAs ignore_case (c ∷ []) text rest → (d : ℕ) × (text ≡ d ∷ rest) × (is_same_character ignore_case d c ≡ true)
begins_one ignore_case c text rest ([], cut, same) = absurd (no_same ignore_case c [] same)
begins_one ignore_case c text rest (d ∷ front, cut, same) =
    let both = same_less ignore_case d c front [] same in
    (d, cut ∙ ap (λ f. d ∷ (f ++ rest)) (none_same ignore_case front both.1), both.0)

pub one_begins : (ignore_case : Bool) (c d : ℕ) (text rest : List ℕ) → text ≡ d ∷ rest → is_same_character ignore_case d c ≡ true → BeginsAs ignore_case (c ∷ []) text rest
one_begins ignore_case c d text rest cut one = (d ∷ [], cut, same_more ignore_case d c [] [] one refl)

-- The first of several characters.
pub begins_first : (ignore_case : Bool) (c : ℕ) (characters text end : List ℕ) → BeginsAs ignore_case (c ∷ characters) text end → (rest : List ℕ) × BeginsAs ignore_case (c ∷ []) text rest
begins_first ignore_case c characters [] end begins = absurd (begins_none ignore_case c characters end begins)
begins_first ignore_case c characters (d ∷ text) end begins =
    (text, one_begins ignore_case c d (d ∷ text) text refl (begins_less ignore_case c characters d text end begins).0)

-- A text begins with these characters, or does not.
pub begins_or_not : (ignore_case : Bool) (characters text : List ℕ) → ((rest : List ℕ) × BeginsAs ignore_case characters text rest) ⊎ ((rest : List ℕ) → ¬ BeginsAs ignore_case characters text rest)
begins_or_not ignore_case [] text = inl (text, ([], refl, refl))
begins_or_not ignore_case (c ∷ characters) [] = inr (λ rest begins. begins_none ignore_case c characters rest begins)
begins_or_not ignore_case (c ∷ characters) (d ∷ text) = by (is_same_character ignore_case d c) refl (begins_or_not ignore_case characters text)
  where
    by : (b : Bool) → is_same_character ignore_case d c ≡ b → ((rest : List ℕ) × BeginsAs ignore_case characters text rest) ⊎ ((rest : List ℕ) → ¬ BeginsAs ignore_case characters text rest)
        → ((rest : List ℕ) × BeginsAs ignore_case (c ∷ characters) (d ∷ text) rest) ⊎ ((rest : List ℕ) → ¬ BeginsAs ignore_case (c ∷ characters) (d ∷ text) rest)
    by true e (inl (rest, begins)) = inl (rest, begins_more ignore_case c characters d text rest e begins)
    by true e (inr other) = inr (λ rest begins. other rest (begins_less ignore_case c characters d text rest begins).1)
    by false e choice = inr (λ rest begins. false≢true (sym e ∙ (begins_less ignore_case c characters d text rest begins).0))

pub begins_length : (ignore_case : Bool) (characters text rest : List ℕ) → BeginsAs ignore_case characters text rest → length text ≡ length characters + length rest
begins_length ignore_case characters text rest (front, cut, same) =
    ap length cut ∙ length-append front rest ∙ ap (λ n. n + length rest) (same-length ignore_case front characters same)

-- A fact that is true holds if the option is None.
pub if_none : {A : Type 0} (o : Option A) (P : Type 0) → P → IfNone o P
if_none None P p = p
if_none (Some x) P p = tt
