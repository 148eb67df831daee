-- The tree of a list of parts means what the parts mean.
use Rattle.std.proofs.Common.{◌≡◌, ℕ, zero, suc, ◌≤◌, List, [], ◌∷◌, ◌++◌, refl, sym, subst, ap, arith, None, Option, ◌∙◌, ◌↔◌, inl, inr}
use Rattle.std.proofs.lemmas.List.{append-nil}
use Rattle.std.proofs.lemmas.List.Elements.{All-head, All-tail}
use Rattle.std.specs.Prelude.{◌≢◌, ◌&&◌, All, replicate}
use Rattle.urlpattern_meaning.specs.Dialect.{Atom, AtomMeans, Grouped, Item, Items, IsQuantified, Means, Nothing, Quantifier, atom_group_count, group_count}
use Rattle.urlpattern_meaning.specs.PartMeaning.{Captures, IsWildcardText, PartMeans, PartsMean}
use Rattle.urlpattern_syntax.specs.declared.parser.PartModifier.{PartModifier}
use Rattle.urlpattern_syntax.specs.declared.parser.PartModifier.TheVariants as modifiers
use Rattle.urlpattern_syntax.specs.declared.parser.PartType.{PartType}
use Rattle.urlpattern_syntax.specs.declared.parser.PartType.TheVariants.{FixedText, Regexp, SegmentWildcard, FullWildcard}
use Rattle.urlpattern_syntax.specs.Options.{OptionsView}
use Rattle.urlpattern_syntax.specs.Parts.{PartView}
use Rattle.urlpattern_syntax.specs.RegexpText.{IsWildcard, escaped_marks, is_empty}
use Rattle.urlpattern_syntax.specs.Text.{IsRepeated}
use Rattle.urlpattern_meaning.proofs.Copies.{repeated_map, wildcard_means}
use Rattle.urlpattern_meaning.proofs.MatchingLaws.{part_of}
use Rattle.urlpattern_meaning.proofs.MeaningLaws.{plain_means}
use Rattle.urlpattern_meaning.proofs.PartAndTree.{group_by}
use Rattle.urlpattern_meaning.proofs.PartTreeAllowed.{put_groups, wildcard_allowed}
use Rattle.urlpattern_meaning.proofs.PartTrees.{IsNotCustom, group_atom, group_quantifier, part_tree, put, quantifier_of, tree_of, wildcard_items}
use Rattle.urlpattern_meaning.proofs.TreeMeaning.{put_means, text_means}
use Rattle.urlpattern_meaning.proofs.WildcardItems.{wildcard_stands}

-- ---- fixed texts with a modifier

texts_of : (marks value : List ℕ) (n : ℕ) (text : List ℕ) → IsRepeated (λ substring. Means (put marks value Nothing) substring []) n text → IsRepeated (λ substring. substring ≡ value) n text
texts_of marks value = repeated_map (λ t. Means (put marks value Nothing) t []) (λ t. t ≡ value) (λ t means. ((text_means marks value t []).0 means).0)

of_texts : (marks value : List ℕ) (n : ℕ) (text : List ℕ) → IsRepeated (λ substring. substring ≡ value) n text → IsRepeated (λ substring. Means (put marks value Nothing) substring []) n text
of_texts marks value = repeated_map (λ t. t ≡ value) (λ t. Means (put marks value Nothing) t []) (λ t e. (text_means marks value t []).1 (e, refl))

one_text : (value text : List ℕ) → text ≡ value → IsRepeated (λ substring. substring ≡ value) 1 text
one_text value text e = (text, [], sym (append-nil text), e, refl)

text_one : (value text : List ℕ) → IsRepeated (λ substring. substring ≡ value) 1 text → text ≡ value
text_one value text (first, rest, cut, e, ended) = cut ∙ ap (λ t. first ++ t) ended ∙ append-nil first ∙ e

no_groups : (marks value : List ℕ) → replicate {A = Option (List ℕ)} (group_count (put marks value Nothing)) None ≡ []
no_groups marks value = ap (λ n. replicate {A = Option (List ℕ)} n None) (put_groups marks value Nothing)

-- A text that may be left out.
optional_text : (marks value text : List ℕ) (captures : Captures) (n : ℕ) → n ≤ 1 → IsRepeated (λ substring. substring ≡ value) n text → captures ≡ [] →
    IsQuantified (quantifier_of modifiers.Optional) (group_count (put marks value Nothing)) (Means (put marks value Nothing)) text captures
optional_text marks value text captures zero few are e = inr (are, e ∙ sym (no_groups marks value))
optional_text marks value text captures (suc zero) few are e = inl ((text_means marks value text captures).1 (text_one value text are, e))
optional_text marks value text captures (suc (suc n)) few are e = absurd (omega (arith, few))

some_texts : (marks value text : List ℕ) (captures : Captures) (n : ℕ) → 1 ≤ n → IsRepeated (λ substring. substring ≡ value) n text → captures ≡ [] →
    IsQuantified (quantifier_of modifiers.OneOrMore) (group_count (put marks value Nothing)) (Means (put marks value Nothing)) text captures
some_texts marks value text captures zero some are e = absurd (omega (arith, some))
some_texts marks value text captures (suc n) some are e = (n, of_texts marks value (suc n) text are, e)

-- ---- a part before items

-- The meaning of a part and items after it.
abbrev pub MeansBefore : OptionsView → PartView → Items → List ℕ → Captures → Type 0
MeansBefore options part items text captures =
    (first rest : List ℕ) × (own others : Captures) × (text ≡ first ++ rest) × (captures ≡ own ++ others)
    × PartMeans options part first own × Means items rest others

-- An atom before items, where the atom means what the part means.
atom_before : (options : OptionsView) (part : PartView) (atom : Atom) (quantifier : Quantifier) (items : Items) →
    ((text : List ℕ) (captures : Captures) → IsQuantified quantifier (atom_group_count atom) (AtomMeans atom) text captures ↔ PartMeans options part text captures) →
    (text : List ℕ) (captures : Captures) → Means (Item atom quantifier items) text captures ↔ MeansBefore options part items text captures
atom_before options part atom quantifier items same text captures = (
  λ (first, rest, own, others, e, f, taken, means). (first, rest, own, others, e, f, (same first own).0 taken, means),
  λ (first, rest, own, others, e, f, means, behind). (first, rest, own, others, e, f, (same first own).1 means, behind),
)

plain_before : (options : OptionsView) (value name prefix suffix : List ℕ) (items : Items) (text : List ℕ) (captures : Captures) →
    Means (put (escaped_marks options.syntax) value items) text captures ↔ MeansBefore options (part_of FixedText modifiers.None value name prefix suffix) items text captures
plain_before options value name prefix suffix items text captures =
    let part = part_of FixedText modifiers.None value name prefix suffix in (
      λ means.
          let found = (put_means (escaped_marks options.syntax) value items text captures).0 means in
          (value, found.0, [], captures, found.1, refl, (plain_means part refl).1 (refl, refl), found.2),
      λ (first, rest, own, others, e, f, mean, means).
          let is = (plain_means part refl).0 mean in
          (put_means (escaped_marks options.syntax) value items text captures).1
          (rest, e ∙ ap (λ t. t ++ rest) is.0, subst (λ c. Means items rest c) (sym (f ∙ ap (λ c. c ++ others) is.1)) means),
    )

fixed_before : (options : OptionsView) (modifier : PartModifier) (value name prefix suffix : List ℕ) (items : Items) (text : List ℕ) (captures : Captures) →
    Means (part_tree options (part_of FixedText modifier value name prefix suffix) items) text captures ↔ MeansBefore options (part_of FixedText modifier value name prefix suffix) items text captures
fixed_before options modifiers.None value name prefix suffix items text captures = plain_before options value name prefix suffix items text captures
fixed_before options modifiers.Optional value name prefix suffix items text captures =
    atom_before options (part_of FixedText modifiers.Optional value name prefix suffix) (Grouped (put (escaped_marks options.syntax) value Nothing)) (quantifier_of modifiers.Optional) items
    (λ t c. (
      λ taken. elim taken [
        | inl means ↦
            let is = (text_means (escaped_marks options.syntax) value t c).0 means in
            record { count = 1; allowed = omega arith; are_copies = one_text value t is.0; are_captures = is.1 }
        | inr none ↦ record { count = 0; allowed = omega arith; are_copies = none.0; are_captures = none.1 ∙ no_groups (escaped_marks options.syntax) value }
      ],
      λ means. optional_text (escaped_marks options.syntax) value t c means.count means.allowed means.are_copies means.are_captures,
    )) text captures
fixed_before options modifiers.ZeroOrMore value name prefix suffix items text captures =
    atom_before options (part_of FixedText modifiers.ZeroOrMore value name prefix suffix) (Grouped (put (escaped_marks options.syntax) value Nothing)) (quantifier_of modifiers.ZeroOrMore) items
    (λ t c. (
      λ (n, are, e). record { count = n; allowed = tt; are_copies = texts_of (escaped_marks options.syntax) value n t are; are_captures = e },
      λ means. (means.count, of_texts (escaped_marks options.syntax) value means.count t means.are_copies, means.are_captures),
    )) text captures
fixed_before options modifiers.OneOrMore value name prefix suffix items text captures =
    atom_before options (part_of FixedText modifiers.OneOrMore value name prefix suffix) (Grouped (put (escaped_marks options.syntax) value Nothing)) (quantifier_of modifiers.OneOrMore) items
    (λ t c. (
      λ (n, are, e). record { count = suc n; allowed = omega arith; are_copies = texts_of (escaped_marks options.syntax) value (suc n) t are; are_captures = e },
      λ means. some_texts (escaped_marks options.syntax) value t c means.count means.allowed means.are_copies means.are_captures,
    )) text captures

wildcard_before : (options : OptionsView) (kind : PartType) (modifier : PartModifier) (value name prefix suffix : List ℕ) (items : Items) → IsWildcard kind → (text : List ℕ) (captures : Captures) →
    Means (Item (group_atom (is_empty prefix && is_empty suffix) modifier (escaped_marks options.syntax) prefix (wildcard_items options kind) suffix) (group_quantifier (is_empty prefix && is_empty suffix) modifier) items) text captures
    ↔ MeansBefore options (part_of kind modifier value name prefix suffix) items text captures
wildcard_before options kind modifier value name prefix suffix items h =
    atom_before options (part_of kind modifier value name prefix suffix) (group_atom (is_empty prefix && is_empty suffix) modifier (escaped_marks options.syntax) prefix (wildcard_items options kind) suffix)
    (group_quantifier (is_empty prefix && is_empty suffix) modifier) items
    (λ t c.
    let tree = group_by (is_empty prefix && is_empty suffix) modifier (escaped_marks options.syntax) prefix (wildcard_items options kind) suffix (IsWildcardText options kind) refl
    (wildcard_stands options kind h) (wildcard_allowed options kind h).no_groups t c in
    let part = wildcard_means options kind modifier value name prefix suffix t c h in
    (λ taken. part.1 (tree.0 taken), λ means. tree.1 (part.0 means)))

part_before : (options : OptionsView) (kind : PartType) (modifier : PartModifier) (value name prefix suffix : List ℕ) (items : Items) → kind ≢ Regexp → (text : List ℕ) (captures : Captures) →
    Means (part_tree options (part_of kind modifier value name prefix suffix) items) text captures ↔ MeansBefore options (part_of kind modifier value name prefix suffix) items text captures
part_before options FixedText modifier value name prefix suffix items h text captures = fixed_before options modifier value name prefix suffix items text captures
part_before options Regexp modifier value name prefix suffix items h text captures = absurd (h refl)
part_before options SegmentWildcard modifier value name prefix suffix items h text captures = wildcard_before options SegmentWildcard modifier value name prefix suffix items tt text captures
part_before options FullWildcard modifier value name prefix suffix items h text captures = wildcard_before options FullWildcard modifier value name prefix suffix items tt text captures

-- ---- a list of parts

-- The tree matches a text with captures exactly where the parts mean that text with these captures.
pub tree_means : (options : OptionsView) (parts : List PartView) → All IsNotCustom parts → (text : List ℕ) (captures : Captures) → Means (tree_of options parts) text captures ↔ PartsMean options parts text captures
tree_means options [] h text captures = (λ means. means, λ means. means)
tree_means options (part ∷ parts) h text captures =
    let before = part_before options part.kind part.modifier part.value part.name part.prefix part.suffix (tree_of options parts) (All-head IsNotCustom part parts h) text captures in (
      λ means. let found = before.0 means in
          (found.0, found.1, found.2, found.3, found.4, found.5, found.6, (tree_means options parts (All-tail IsNotCustom part parts h) found.1 found.3).0 found.7),
      λ (first, rest, own, others, e, f, mean, means).
          before.1 (first, rest, own, others, e, f, mean, (tree_means options parts (All-tail IsNotCustom part parts h) rest others).1 means),
    )
