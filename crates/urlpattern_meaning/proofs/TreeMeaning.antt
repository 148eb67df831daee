-- The meaning of the trees that parts are written by: texts, atoms alone, captures between texts,
-- and wildcards.
use Rattle.std.proofs.Common.{◌≡◌, ℕ, List, [], ◌∷◌, ◌++◌, refl, sym, subst, ap, Bool, true, false, Some, append_assoc, ◌∙◌, ◌↔◌}
use Rattle.std.proofs.lemmas.List.{append-nil}
use Rattle.std.specs.Prelude.{if◌then◌else◌}
use Rattle.urlpattern_meaning.specs.Dialect.{Atom, AtomMeans, Captured, Grouped, Items, Nothing, Item, IsQuantified, Means, Once, Plain, Quantifier, Escaped, ZeroOrMore, atom_group_count, character_of}
use Rattle.urlpattern_meaning.specs.PartMeaning.{Captures}
use Rattle.urlpattern_syntax.specs.Text.{is_among}
use Rattle.urlpattern_meaning.proofs.Copies.{IsCore, IsFurther, repeated_map}
use Rattle.urlpattern_meaning.proofs.PartTrees.{alone, between, character, copies, further, put}

-- ---- texts

character_by : (is_mark : Bool) (c : ℕ) → character_of (if is_mark then Escaped c else Plain c) ≡ c
character_by true c = refl
character_by false c = refl

pub character_same : (marks : List ℕ) (c : ℕ) → character_of (character marks c) ≡ c
character_same marks c = character_by (is_among marks c) c

-- A text before items matches itself, and captures nothing.
pub put_means : (marks front : List ℕ) (items : Items) (text : List ℕ) (captures : Captures) →
    Means (put marks front items) text captures ↔ ((rest : List ℕ) × (text ≡ front ++ rest) × Means items rest captures)
put_means marks [] items text captures = (λ means. (text, refl, means), λ is. subst (λ t. Means items t captures) (sym is.1) is.2)
put_means marks (c ∷ front) items text captures = (
  λ (first, rest, own, others, e, f, (g, h), means).
      let more = (put_means marks front items rest others).0 means in (
        more.0,
        e ∙ ap (λ t. t ++ rest) (g ∙ ap (λ d. d ∷ []) (character_same marks c)) ∙ ap (λ t. c ∷ t) more.1,
        subst (λ d. Means items more.0 d) (sym (f ∙ ap (λ d. d ++ others) h)) more.2,
      ),
  λ is.
      let more = (put_means marks front items (front ++ is.0) captures).1 (is.0, refl, is.2) in
      (c ∷ [], front ++ is.0, [], captures, is.1, refl, (ap (λ d. d ∷ []) (sym (character_same marks c)), refl), more),
)

pub text_means : (marks front text : List ℕ) (captures : Captures) → Means (put marks front Nothing) text captures ↔ ((text ≡ front) × (captures ≡ []))
text_means marks front text captures = (
  λ means. let is = (put_means marks front Nothing text captures).0 means in (is.1 ∙ ap (λ t. front ++ t) is.2.0 ∙ append-nil front, is.2.1),
  λ is. (put_means marks front Nothing text captures).1 ([], is.0 ∙ sym (append-nil front), (refl, is.1)),
)

-- ---- an atom alone

pub alone_means : (atom : Atom) (quantifier : Quantifier) (text : List ℕ) (captures : Captures) →
    Means (alone atom quantifier) text captures ↔ IsQuantified quantifier (atom_group_count atom) (AtomMeans atom) text captures
alone_means atom quantifier text captures = (λ means. there means, λ taken. (text, [], captures, [], sym (append-nil text), sym (append-nil captures), taken, (refl, refl)))
  where
    there : Means (alone atom quantifier) text captures → IsQuantified quantifier (atom_group_count atom) (AtomMeans atom) text captures
    there (first, rest, own, others, e, f, taken, (g, h)) =
        let same_text : first ≡ text = sym (e ∙ ap (λ t. first ++ t) g ∙ append-nil first) in
        let same_captures : own ≡ captures = sym (f ∙ ap (λ c. own ++ c) h ∙ append-nil own) in
        subst (λ c. IsQuantified quantifier (atom_group_count atom) (AtomMeans atom) text c) same_captures
        (subst (λ t. IsQuantified quantifier (atom_group_count atom) (AtomMeans atom) t own) same_text taken)

-- ---- a capture between prefix and suffix

pub between_means : (marks prefix : List ℕ) (core : Items) (suffix text : List ℕ) (captures : Captures) →
    Means (between marks prefix core suffix) text captures
    ↔ ((middle : List ℕ) × (inner : Captures) × (text ≡ prefix ++ middle ++ suffix) × (captures ≡ Some middle ∷ inner) × Means core middle inner)
between_means marks prefix core suffix text captures = (
  λ means. let is = (put_means marks prefix _ text captures).0 means in there is.0 is.1 is.2,
  λ (middle, inner, e, f, means).
      (put_means marks prefix _ text captures).1 (
        middle ++ suffix,
        e ∙ append_assoc prefix middle suffix,
        (
          middle,
          suffix,
          Some middle ∷ inner,
          [],
          refl,
          f ∙ sym (append-nil (Some middle ∷ inner)),
          (inner, refl, means),
          (text_means marks suffix suffix []).1 (refl, refl),
        ),
      ),
)
  where
    there : (rest : List ℕ) → text ≡ prefix ++ rest → Means (Item (Captured core) Once (put marks suffix Nothing)) rest captures →
        (middle : List ℕ) × (inner : Captures) × (text ≡ prefix ++ middle ++ suffix) × (captures ≡ Some middle ∷ inner) × Means core middle inner
    there rest e (first, behind, own, others, f, g, (inner, h, means), ends) =
        let end = (text_means marks suffix behind others).0 ends in (
          first,
          inner,
          e ∙ ap (λ t. prefix ++ t) (f ∙ ap (λ t. first ++ t) end.0) ∙ sym (append_assoc prefix first suffix),
          g ∙ ap (λ c. own ++ c) end.1 ∙ append-nil own ∙ h,
          means,
        )

-- ---- items that match pieces

-- Items match the pieces, and capture nothing.
pub record StandsFor (items : Items) (IsPiece : List ℕ → Type 0) : Type 0 where
  pub means : (text : List ℕ) (captures : Captures) → Means items text captures ↔ (IsPiece text × (captures ≡ []))

-- Items that match pieces, on a whole text.
pub piece_means : (piece : Items) (IsPiece : List ℕ → Type 0) → StandsFor piece IsPiece → (text : List ℕ) → Means piece text [] ↔ IsPiece text
piece_means piece IsPiece stands text = (λ means. ((stands.means text []).0 means).0, λ is. (stands.means text []).1 (is, refl))

further_means : (marks prefix : List ℕ) (piece : Items) (suffix : List ℕ) (IsPiece : List ℕ → Type 0) → StandsFor piece IsPiece → (text : List ℕ) →
    Means (further marks prefix piece suffix) text [] ↔ IsFurther IsPiece prefix suffix text
further_means marks prefix piece suffix IsPiece stands text = (
  λ means.
      let one = (put_means marks suffix (put marks prefix (alone (Grouped piece) Once)) text []).0 means in
      let two = (put_means marks prefix (alone (Grouped piece) Once) one.0 []).0 one.2 in
      let three = (stands.means two.0 []).0 ((alone_means (Grouped piece) Once two.0 []).0 two.2) in
      (two.0, one.1 ∙ ap (λ t. suffix ++ t) two.1 ∙ sym (append_assoc suffix prefix two.0), three.0),
  λ (found, e, is).
      (put_means marks suffix (put marks prefix (alone (Grouped piece) Once)) text []).1 (
        prefix ++ found,
        e ∙ append_assoc suffix prefix found,
        (put_means marks prefix (alone (Grouped piece) Once) (prefix ++ found) []).1
            (found, refl, (alone_means (Grouped piece) Once found []).1 ((stands.means found []).1 (is, refl))),
      ),
)

-- Copies without the first prefix and the last suffix.
pub copies_means : (marks prefix : List ℕ) (piece : Items) (suffix : List ℕ) (IsPiece : List ℕ → Type 0) → StandsFor piece IsPiece → (text : List ℕ) (captures : Captures) →
    Means (copies marks prefix piece suffix) text captures ↔ ((n : ℕ) × IsCore IsPiece prefix suffix n text × (captures ≡ []))
copies_means marks prefix piece suffix IsPiece stands text captures = (
  λ means. there means,
  λ (n, (first, rest, e, is, more), f). (
    first,
    rest,
    [],
    [],
    e,
    f,
    (stands.means first []).1 (is, refl),
    (alone_means (Grouped (further marks prefix piece suffix)) ZeroOrMore rest []).1 (n, repeated_map (IsFurther IsPiece prefix suffix) (λ t. Means (further marks prefix piece suffix) t []) (λ t. (further_means marks prefix piece suffix IsPiece stands t).1) n rest more, refl),
  ),
)
  where
    there : Means (copies marks prefix piece suffix) text captures → (n : ℕ) × IsCore IsPiece prefix suffix n text × (captures ≡ [])
    there (first, rest, own, others, e, f, means, more) =
        let one = (stands.means first own).0 means in
        let two = (alone_means (Grouped (further marks prefix piece suffix)) ZeroOrMore rest others).0 more in (
          two.0,
          (first, rest, e, one.0, repeated_map (λ t. Means (further marks prefix piece suffix) t []) (IsFurther IsPiece prefix suffix) (λ t. (further_means marks prefix piece suffix IsPiece stands t).0) two.0 rest two.1),
          f ∙ ap (λ c. c ++ others) one.1 ∙ two.2,
        )
