-- Lemmas on the names that a pattern gives, and on the numbers of placeholders without one.
use Rattle.std.proofs.Common.{◌≡◌, ℕ, ◌+◌, ◌<◌, ◌^◌, false, List, [], ◌∷◌, ◌++◌, refl, sym, ap, ◌∙◌, subst, inl, inr, arith, rules, Ok, Err}
use Rattle.std.specs.Prelude.{OnOk, Result, ◌||◌, Contains, IsTrue, decimal}
use Rattle.std.specs.Borrow.{Bor}
use Rattle.std.specs.Str.{chars, IsUtf8}
use Rattle.std.proofs.lemmas.Bool.{both_ways, or_cases, or_left, or_right}
use Rattle.std.proofs.lemmas.Fmt.{decimal_injective}
use Rattle.std.proofs.lemmas.List.Elements.{Contains-append_left, Contains-push, Contains-push_cases}
use Rattle.urlpattern_parser.specs.declared.parser.given_names.GivenNames.{GivenNames}
use Rattle.urlpattern_parser.specs.GivenNames.{has_name, has_bytes}
use Rattle.urlpattern_syntax.specs.Options.{OptionsView}
use Rattle.urlpattern_syntax.specs.Parsing.{AddsParts, BeginsAsName, PartListView, pending_items}
use Rattle.urlpattern_parser.specs.Readers.{KnowsNames}
use Rattle.urlpattern_syntax.specs.Reading.{Encoding, Item}
use Rattle.urlpattern_syntax.specs.RegexpText.{group_names}
use Rattle.urlpattern_syntax.proofs.ReadingLemmas.{group_names-append, item_names, item_names-append, names-AreParts}
use Rattle.std.proofs.lemmas.List.{append-nil}
use Rattle.urlpattern_syntax.proofs.NameCharacters.{given_no_number}
use Rattle.urlpattern_syntax.proofs.TextLemmas.{bytes_same}

none_there : (name : List ℕ) → ¬ Contains [] name
none_there name h = absurd (omega (arith, h.1))

-- An empty set of names.
pub knows_none : (given : GivenNames) → ((name : List ℕ) → has_name given name ≡ false) → KnowsNames [] given 0
knows_none given none = record {
  named = λ name u g. (λ h. absurd (none_there (chars name) h), λ h. absurd (both_ways _ (none name) h));
  numbered = λ other le small. none_there (decimal other);
}

module _ (names : List (List ℕ)) (given : GivenNames) (number : ℕ) (knows : KnowsNames names given number) where
  -- A number is added to the names.
  pub knows_number : number < 2 ^ 64 → KnowsNames (names ++ decimal number ∷ []) given (number + 1)
  knows_number small = record {
    named = λ name u g. (
      λ h. elim (Contains-push_cases names (decimal number) (chars name) h) [
        | inl before ↦ (knows.named name u g).0 before
        | inr same ↦ absurd (given_no_number (chars name) number g same)
      ],
      λ h. Contains-append_left names (decimal number ∷ []) (chars name) ((knows.named name u g).1 h),
    );
    numbered = λ other le below h. elim (Contains-push_cases names (decimal number) (decimal other) h) [
      | inl before ↦ knows.numbered other (omega arith) below before
      | inr same ↦ let e = decimal_injective number other small below same in omega arith
    ];
  }

  -- A name is added to the names.
  pub knows_name : (new : GivenNames) (name : Bor (List ℕ)) → IsUtf8 name.now → BeginsAsName (chars name.now) → ((other : List ℕ) → has_name new other ≡ (has_bytes other name || has_name given other)) →
      KnowsNames (names ++ chars name.now ∷ []) new number
  knows_name new name u g added = record {
    named = λ other v o. (
      λ h. sym_true other (elim (Contains-push_cases names (chars name.now) (chars other) h) [
        | inl before ↦ or_right (has_bytes other name) (has_name given other) ((knows.named other v o).0 before)
        | inr same ↦ or_left (has_bytes other name) (has_name given other) (text_is other (bytes_same name.now other u v same))
      ]),
      λ h. elim (or_cases (has_bytes other name) (has_name given other) (sym (added other) ∙ h)) [
        | inl same ↦ subst (λ x. Contains (names ++ chars name.now ∷ []) (chars x)) (sym (is_of other same)) (Contains-push names (chars name.now))
        | inr before ↦ Contains-append_left names (chars name.now ∷ []) (chars other) ((knows.named other v o).1 before)
      ],
    );
    numbered = λ other le below h. elim (Contains-push_cases names (chars name.now) (decimal other) h) [
      | inl before ↦ knows.numbered other le below before
      | inr same ↦ given_no_number (chars name.now) other g (sym same)
    ];
  }
    where
      sym_true : (other : List ℕ) → IsTrue (has_bytes other name || has_name given other) → IsTrue (has_name new other)
      sym_true other h = added other ∙ h

      text_is : (other : List ℕ) → name.now ≡ other → IsTrue (has_bytes other name)
      text_is other e = search rules

      is_of : (other : List ℕ) → IsTrue (has_bytes other name) → other ≡ name.now
      is_of other e = search rules

-- ---- parts that are added

names_added : (options : OptionsView) (encoding : Encoding) (old new : PartListView) (items : List Item) → AddsParts options encoding old items new → group_names new.parts ≡ group_names old.parts ++ item_names items
names_added options encoding old new items a =
    ap group_names a.parts ∙ group_names-append old.parts a.added ∙ ap (λ x. group_names old.parts ++ x) (names-AreParts options encoding items a.added a.are_parts)

pending_unnamed : (text : List ℕ) → item_names (pending_items text) ≡ []
pending_unnamed [] = refl
pending_unnamed (c ∷ text) = refl

-- The pending text and more items have the names of these items.
pub names_with : (options : OptionsView) (encoding : Encoding) (old new : PartListView) (items : List Item) → AddsParts options encoding old (pending_items old.pending ++ items) new → group_names new.parts ≡ group_names old.parts ++ item_names items
names_with options encoding old new items a =
    names_added options encoding old new (pending_items old.pending ++ items) a
    ∙ ap (λ x. group_names old.parts ++ x) (item_names-append (pending_items old.pending) items ∙ ap (λ x. x ++ item_names items) (pending_unnamed old.pending))

pub names_pending : (options : OptionsView) (encoding : Encoding) (old new : PartListView) → AddsParts options encoding old (pending_items old.pending) new → group_names new.parts ≡ group_names old.parts
names_pending options encoding old new a =
    names_added options encoding old new (pending_items old.pending) a ∙ ap (λ x. group_names old.parts ++ x) (pending_unnamed old.pending) ∙ append-nil (group_names old.parts)

-- Equal names, sets of names and next numbers are known alike.
pub knows_same : (names others : List (List ℕ)) (given same : GivenNames) (number next : ℕ) → others ≡ names → same ≡ given → next ≡ number → KnowsNames names given number → KnowsNames others same next
knows_same names others given same number next e f g h =
    subst (λ x. KnowsNames x same next) (sym e) (subst (λ x. KnowsNames names x next) (sym f) (subst (KnowsNames names given) (sym g) h))

-- A consequence of three clauses of a call that succeeds.
pub ok_both : {T E : Type 0} (result : Result T E) {P Q R S : Type 0} → OnOk result P → OnOk result Q → OnOk result R → (P → Q → R → S) → OnOk result S
ok_both (Ok x) p q r f = f p q r
ok_both (Err e) p q r f = tt
