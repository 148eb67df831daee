-- Patterns that match exactly certain texts.
use Rattle.std.proofs.Common.{◌≡◌, ◌↔◌, ℕ, zero, suc, List, [], ◌++◌, Bool, true, false, ◌&&◌, ◌⊎◌, inl, inr, refl, sym, ap, ap₂, ◌∙◌, subst, append-nil}
use Rattle.std.proofs.lemmas.Bool.{and_from}
use lib.Utf8.{scalars}
use Rattle.regex_hir.specs.Re.{Re, empty, byte_in, cat, alt, group, plus}
use Rattle.regex_syntax.specs.Brackets.{Nested}
use Rattle.urlpattern_laws.proofs.Bare.{bare}
use Rattle.urlpattern_laws.proofs.Takes.{Takes}
use Rattle.urlpattern_expressions.specs.Expressions.{matches_characters}
use Rattle.urlpattern_meaning.specs.Dialect.{Quantifier, Once, Optional, ZeroOrMore, OneOrMore, LazyOneOrMore}
use Rattle.urlpattern_engine.proofs.ItemsRead.{repeated_as}
use Rattle.urlpattern_engine.proofs.TreesRead.{scalars_parts}
use Rattle.urlpattern_syntax.specs.Text.{IsRepeated}

-- Sets of texts.
abbrev pub Texts : Type 1
Texts = List ℕ → Type 0

-- The pattern matches exactly the texts of characters in the set.
pub record Denotes (re : Re) (Is : List ℕ → Type 0) : Type 0 where
  pub plain : matches_characters re ≡ true
  pub same : (text : List ℕ) → scalars text ≡ true → Takes re text ↔ Is text

-- A text of the first set, and then one of the second.
abbrev pub Joined : Texts → Texts → Texts
Joined A B text = (first rest : List ℕ) × (text ≡ first ++ rest) × A first × B rest

abbrev pub Nothing : Texts
Nothing text = text ≡ []

abbrev pub Quantified : Quantifier → Texts → Texts
Quantified Once Is text = Is text
Quantified Optional Is text = Is text ⊎ (text ≡ [])
Quantified ZeroOrMore Is text = (n : ℕ) × IsRepeated Is n text
Quantified OneOrMore Is text = (n : ℕ) × IsRepeated Is (suc n) text
Quantified LazyOneOrMore Is text = (n : ℕ) × IsRepeated Is (suc n) text

-- The sets have the same texts of characters.
abbrev pub AreSameTexts : Texts → Texts → Type 0
AreSameTexts A B = (text : List ℕ) → scalars text ≡ true → A text ↔ B text

pub good_cut : (text first rest : List ℕ) → text ≡ first ++ rest → scalars text ≡ true → (scalars first ≡ true) × (scalars rest ≡ true)
good_cut text first rest cut good = scalars_parts first rest (ap scalars (sym cut) ∙ good)

pub repeated_good : (A B : Texts) → ((text : List ℕ) → scalars text ≡ true → A text → B text) → (n : ℕ) (text : List ℕ) → scalars text ≡ true → IsRepeated A n text → IsRepeated B n text
repeated_good A B weaker zero text good ended = ended
repeated_good A B weaker (suc n) text good (first, rest, cut, is, more) =
    let both = good_cut text first rest cut good in
    (first, rest, cut, weaker first both.0 is, repeated_good A B weaker n rest both.1 more)

-- ---- texts

pub joined_same : (A B C D : Texts) → AreSameTexts A B → AreSameTexts C D → AreSameTexts (Joined A C) (Joined B D)
joined_same A B C D p q text good = (
  λ (first, rest, cut, a, c). let both = good_cut text first rest cut good in (first, rest, cut, (p first both.0).0 a, (q rest both.1).0 c),
  λ (first, rest, cut, b, d). let both = good_cut text first rest cut good in (first, rest, cut, (p first both.0).1 b, (q rest both.1).1 d),
)

pub repeated_same : (A B : Texts) → AreSameTexts A B → (n : ℕ) → AreSameTexts (IsRepeated A n) (IsRepeated B n)
repeated_same A B p n text good = (repeated_good A B (λ t g. (p t g).0) n text good, repeated_good B A (λ t g. (p t g).1) n text good)

pub quantified_same : (quantifier : Quantifier) (A B : Texts) → AreSameTexts A B → AreSameTexts (Quantified quantifier A) (Quantified quantifier B)
quantified_same Once A B p text good = p text good
quantified_same Optional A B p text good = (
  λ a. elim a [ inl is ↦ inl ((p text good).0 is) | inr none ↦ inr none ],
  λ b. elim b [ inl is ↦ inl ((p text good).1 is) | inr none ↦ inr none ],
)
quantified_same ZeroOrMore A B p text good = (λ (n, are). (n, (repeated_same A B p n text good).0 are), λ (n, are). (n, (repeated_same A B p n text good).1 are))
quantified_same OneOrMore A B p text good = (λ (n, are). (n, (repeated_same A B p (suc n) text good).0 are), λ (n, are). (n, (repeated_same A B p (suc n) text good).1 are))
quantified_same LazyOneOrMore A B p text good = (λ (n, are). (n, (repeated_same A B p (suc n) text good).0 are), λ (n, are). (n, (repeated_same A B p (suc n) text good).1 are))

-- ---- patterns

pub denotes_same : (re : Re) (A B : Texts) → AreSameTexts A B → Denotes re A → Denotes re B
denotes_same re A B p d = record {
  plain = d.plain;
  same = λ text good. (λ takes. (p text good).0 ((d.same text good).0 takes), λ is. (d.same text good).1 ((p text good).1 is));
}

pub denotes_empty : Denotes empty Nothing
denotes_empty = record { plain = refl; same = λ text good. (λ is. is, λ is. is) }

pub denotes_cat : (a b : Re) (A B : Texts) → Denotes a A → Denotes b B → Denotes (cat a b) (Joined A B)
denotes_cat a b A B d e = record { plain = and_from _ _ d.plain e.plain; same = joined_same (Takes a) A (Takes b) B d.same e.same }

pub denotes_alt : (a b : Re) (A B : Texts) → Denotes a A → Denotes b B → Denotes (alt a b) (λ text. A text ⊎ B text)
denotes_alt a b A B d e = record {
  plain = and_from _ _ d.plain e.plain;
  same = λ text good. (
    λ takes. elim takes [ inl left ↦ inl ((d.same text good).0 left) | inr right ↦ inr ((e.same text good).0 right) ],
    λ is. elim is [ inl left ↦ inl ((d.same text good).1 left) | inr right ↦ inr ((e.same text good).1 right) ],
  );
}

-- A branch by itself, as the grammar builds it.
pub denotes_alone : (a : Re) (A : Texts) → Denotes a A → Denotes (alt a (byte_in [])) A
denotes_alone a A d = record {
  plain = and_from _ _ d.plain refl;
  same = λ text good. (λ takes. elim takes [ inl left ↦ (d.same text good).0 left | inr none ↦ absurd none ], λ is. inl ((d.same text good).1 is));
}

pub denotes_plus : (greedy : Bool) (a : Re) (A : Texts) → Denotes a A → Denotes (plus greedy a) (Quantified OneOrMore A)
denotes_plus greedy a A d = record { plain = d.plain; same = quantified_same OneOrMore (Takes a) A d.same }

joined_nothing : (A : Texts) → AreSameTexts (Joined A Nothing) A
joined_nothing A text good = (
  λ (first, rest, cut, is, none). subst A (sym (cut ∙ ap (λ t. first ++ t) none ∙ append-nil first)) is,
  λ is. (text, [], sym (append-nil text), is, refl),
)

-- A pattern before nothing.
pub denotes_last : (a : Re) (A : Texts) → Denotes a A → Denotes (cat a empty) A
denotes_last a A d = denotes_same (cat a empty) (Joined A Nothing) A (joined_nothing A) (denotes_cat a empty A Nothing d denotes_empty)

some_or_none : (A : Texts) → AreSameTexts (λ text. Quantified OneOrMore A text ⊎ (text ≡ [])) (Quantified ZeroOrMore A)
some_or_none A text good = (
  λ either. elim either [ inl some ↦ (suc some.0, some.1) | inr none ↦ (zero, none) ],
  λ (n, are). by n are,
)
  where
    by : (n : ℕ) → IsRepeated A n text → Quantified OneOrMore A text ⊎ (text ≡ [])
    by zero ended = inr ended
    by (suc n) are = inl (n, are)

pub denotes_quantified : (quantifier : Quantifier) (sub : Nested Re) (A : Texts) → Denotes sub.value A → Denotes (repeated_as quantifier sub).value (Quantified quantifier A)
denotes_quantified Once sub A d = d
denotes_quantified Optional sub A d = denotes_alt (cat sub.value empty) empty A Nothing (denotes_last sub.value A d) denotes_empty
denotes_quantified ZeroOrMore sub A d =
    denotes_same _ _ (Quantified ZeroOrMore A) (some_or_none A) (denotes_alt (plus true sub.value) empty (Quantified OneOrMore A) Nothing (denotes_plus true sub.value A d) denotes_empty)
denotes_quantified OneOrMore sub A d = denotes_plus true sub.value A d
denotes_quantified LazyOneOrMore sub A d = denotes_plus false sub.value A d

-- ---- without groups

pub plain_bare : (a : Re) → matches_characters (bare a) ≡ matches_characters a
plain_bare (cat a b) = ap₂ ◌&&◌ (plain_bare a) (plain_bare b)
plain_bare (alt a b) = ap₂ ◌&&◌ (plain_bare a) (plain_bare b)
plain_bare (group n a) = plain_bare a
plain_bare (plus greedy a) = plain_bare a
plain_bare a = refl

takes_bare : (a : Re) → AreSameTexts (Takes (bare a)) (Takes a)
takes_bare (cat a b) text good = joined_same (Takes (bare a)) (Takes a) (Takes (bare b)) (Takes b) (takes_bare a) (takes_bare b) text good
takes_bare (alt a b) text good = (
  λ takes. elim takes [ inl left ↦ inl ((takes_bare a text good).0 left) | inr right ↦ inr ((takes_bare b text good).0 right) ],
  λ takes. elim takes [ inl left ↦ inl ((takes_bare a text good).1 left) | inr right ↦ inr ((takes_bare b text good).1 right) ],
)
takes_bare (group n a) text good = takes_bare a text good
takes_bare (plus greedy a) text good = quantified_same OneOrMore (Takes (bare a)) (Takes a) (takes_bare a) text good
takes_bare a text good = (λ is. is, λ is. is)

-- The texts of a pattern do not depend on the numbers of its groups.
pub denotes_bare : (a b : Re) (A : Texts) → bare b ≡ bare a → Denotes a A → Denotes b A
denotes_bare a b A e d = record {
  plain = sym (plain_bare b) ∙ ap matches_characters e ∙ plain_bare a ∙ d.plain;
  same = λ text good. (
    λ takes. (d.same text good).0 ((takes_bare a text good).0 (subst (λ re. Takes re text) e ((takes_bare b text good).1 takes))),
    λ is. (takes_bare b text good).0 (subst (λ re. Takes re text) (sym e) ((takes_bare a text good).1 ((d.same text good).1 is))),
  );
}
