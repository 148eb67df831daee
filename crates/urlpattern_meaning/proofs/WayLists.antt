-- Lists of ways: properties of all of them, and membership.
use Rattle.std.proofs.Common.{◌≡◌, zero, suc, arith, sym, List, [], ◌∷◌, ◌++◌, map, Bool, true, false, cond, inl, inr, ◌⊎◌, ap, subst}
use Rattle.std.specs.List.{Contains}
use Rattle.urlpattern_meaning.specs.Ways.{Way, WaysByText, joined_way, continued, ordered}

abbrev pub Every : {A : Type 0} → (A → Type 0) → List A → Type 0
Every P [] = Unit {0}
Every P (x ∷ xs) = P x × Every P xs

pub every-append : {A : Type 0} (P : A → Type 0) (xs ys : List A) → Every P xs → Every P ys → Every P (xs ++ ys)
every-append P [] ys p q = q
every-append P (x ∷ xs) ys p q = (p.0, every-append P xs ys p.1 q)

pub every-map : {A B : Type 0} (P : B → Type 0) (f : A → B) (xs : List A) → Every (λ x. P (f x)) xs → Every P (map f xs)
every-map P f [] p = tt
every-map P f (x ∷ xs) p = (p.0, every-map P f xs p.1)

pub every-weaker : {A : Type 0} (P Q : A → Type 0) (xs : List A) → ((x : A) → P x → Q x) → Every P xs → Every Q xs
every-weaker P Q [] f p = tt
every-weaker P Q (x ∷ xs) f p = (f x p.0, every-weaker P Q xs f p.1)

pub every-cond : {A : Type 0} (P : A → Type 0) (b : Bool) (xs ys : List A) → Every P xs → Every P ys → Every P (cond b xs ys)
every-cond P true xs ys p q = p
every-cond P false xs ys p q = q

pub every-ordered : (P : Way → Type 0) (greedy : Bool) (round leave : List Way) → Every P round → Every P leave → Every P (ordered greedy round leave)
every-ordered P true round leave p q = every-append P round leave p q
every-ordered P false round leave p q = every-append P leave round q p

pub every-continued : (P Q : Way → Type 0) (next : WaysByText) (ways : List Way) → Every P ways
    → ((way : Way) → P way → Every (λ more. Q (joined_way way more)) (next way.rest)) → Every Q (continued next ways)
every-continued P Q next [] p f = tt
every-continued P Q next (way ∷ ways) p f =
    every-append Q (map (joined_way way) (next way.rest)) (continued next ways) (every-map Q (joined_way way) (next way.rest) (f way p.0)) (every-continued P Q next ways p.1 f)

-- ---- membership

abbrev pub Has : {A : Type 0} → A → List A → Type 0
Has x [] = ⊥
Has x (y ∷ ys) = (x ≡ y) ⊎ Has x ys

pub has-left : {A : Type 0} (x : A) (xs ys : List A) → Has x xs → Has x (xs ++ ys)
has-left x [] ys h = absurd h
has-left x (y ∷ xs) ys (inl e) = inl e
has-left x (y ∷ xs) ys (inr h) = inr (has-left x xs ys h)

pub has-right : {A : Type 0} (x : A) (xs ys : List A) → Has x ys → Has x (xs ++ ys)
has-right x [] ys h = h
has-right x (y ∷ xs) ys h = inr (has-right x xs ys h)

pub has-map : {A B : Type 0} (f : A → B) (x : A) (xs : List A) → Has x xs → Has (f x) (map f xs)
has-map f x [] h = absurd h
has-map f x (y ∷ xs) (inl e) = inl (ap f e)
has-map f x (y ∷ xs) (inr h) = inr (has-map f x xs h)

pub has-round : (x : Way) (greedy : Bool) (round leave : List Way) → Has x round → Has x (ordered greedy round leave)
has-round x true round leave h = has-left x round leave h
has-round x false round leave h = has-right x leave round h

pub has-leave : (x : Way) (greedy : Bool) (round leave : List Way) → Has x leave → Has x (ordered greedy round leave)
has-leave x true round leave h = has-right x round leave h
has-leave x false round leave h = has-left x leave round h

pub has-continued : (next : WaysByText) (way more : Way) (ways : List Way) → Has way ways → Has more (next way.rest) → Has (joined_way way more) (continued next ways)
has-continued next way more [] h g = absurd h
has-continued next way more (other ∷ ways) (inl e) g =
    has-left _ (map (joined_way other) (next other.rest)) (continued next ways)
    (subst (λ (w : Way). Has (joined_way way more) (map (joined_way w) (next w.rest))) e (has-map (joined_way way) more (next way.rest) g))
has-continued next way more (other ∷ ways) (inr h) g =
    has-right _ (map (joined_way other) (next other.rest)) (continued next ways) (has-continued next way more ways h g)

-- Membership, as the library defines it.
pub contains-has : {A : Type 0} (x : A) (xs : List A) → Has x xs → Contains xs x
contains-has x [] h = absurd h
contains-has x (y ∷ xs) (inl e) = (0, omega arith, sym e)
contains-has x (y ∷ xs) (inr h) = let at = contains-has x xs h in (suc at.0, omega (arith, at.1), at.2)

pub has-contains : {A : Type 0} (x : A) (xs : List A) → Contains xs x → Has x xs
has-contains x [] (k, less, e) = absurd (omega arith)
has-contains x (y ∷ xs) (zero, less, e) = inl (sym e)
has-contains x (y ∷ xs) (suc k, less, e) = inr (has-contains x xs (k, omega arith, e))

pub every-has : {A : Type 0} (P : A → Type 0) (x : A) (xs : List A) → Every P xs → Has x xs → P x
every-has P x [] p h = absurd h
every-has P x (y ∷ xs) p (inl e) = subst P (sym e) p.0
every-has P x (y ∷ xs) p (inr h) = every-has P x xs p.1 h
