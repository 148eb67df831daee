-- Where case is ignored, the grammar's test of characters is on ASCII the test by lower case.
use Rattle.std.proofs.Common.{◌≡◌, ℕ, zero, suc, ◌<◌, Bool, true, false, ◌&&◌, ◌||◌, ◌==◌, List, [], ◌∷◌, Contains, refl, sym, ap, ◌∙◌, subst, eq-eqb, eqb-true, lt-ltb, ◌⊎◌, ⊎_elim, arith, zero-lt-suc, suc-le-suc, le_of_suc-le-suc, not-suc-le-zero}
use Rattle.std.proofs.lemmas.Bool.{and_from, and_parts, both_ways, cases_Bool, or_cases}
use Rattle.std.specs.Bool.{one_answer}
use Rattle.std.specs.Char.{to_ascii_lowercase}
use Rattle.regex_class.specs.Ranges.{Range, in_image, in_ranges}
use Rattle.regex_syntax.proofs.SetLemmas.{in_ranges-members}
use Rattle.regex_syntax.specs.Fold.{in_unicode_fold}
use Rattle.regex_syntax.specs.Sets.{case_fold, members}
use Rattle.ucd_case.proofs.CaseFoldingLemmas.{simple_fold-ascii}
use Rattle.ucd_case.proofs.FoldPairsLemmas.{IsFoldPairs-fold_pairs}
use Rattle.ucd_case.specs.CaseFolding.{fold_pairs, simple_fold}
use Rattle.urlpattern_meaning.specs.Matching.{is_same_character}
use Rattle.urlpattern_engine.proofs.AtomsRead.{grammar_same}

or_left : (a b : Bool) → a ≡ true → (a || b) ≡ true
or_left true b h = refl
or_left false b h = absurd cc

or_right : (a b : Bool) → b ≡ true → (a || b) ≡ true
or_right true b h = refl
or_right false b h = h

-- ---- pairs

-- A number in the image of ranges is the second of a pair whose first is in the ranges.
pair_of_image : (pairs : List (ℕ × ℕ)) (rs : List Range) (c : ℕ) → in_image pairs rs c ≡ true → (a : ℕ) × (in_ranges rs a ≡ true) × Contains pairs (a, c)
unfolding in_image
pair_of_image [] rs c h = absurd cc
pair_of_image (p ∷ pairs) rs c h =
    ⊎_elim
    (λ (here : (in_ranges rs p.0 && (p.1 == c)) ≡ true).
    let parts = and_parts _ _ here in
    (p.0, parts.0, (zero, zero-lt-suc _, ap (λ (d : ℕ). (p.0, d)) (eqb-true p.1 c parts.1))))
    (λ later.
    let found = pair_of_image pairs rs c later in
    (found.0, found.1, (suc found.2.0, suc-le-suc found.2.1, found.2.2)))
    (or_cases _ _ h)

image_of_pair : (pairs : List (ℕ × ℕ)) (rs : List Range) (a c : ℕ) → in_ranges rs a ≡ true → Contains pairs (a, c) → in_image pairs rs c ≡ true
unfolding in_image
image_of_pair [] rs a c inside (k, lt, at) = absurd (not-suc-le-zero lt)
image_of_pair (p ∷ pairs) rs a c inside (zero, lt, at) =
    or_left _ _ (and_from _ _ (ap (λ (q : ℕ × ℕ). in_ranges rs q.0) at ∙ inside) (eq-eqb p.1 c (ap (λ (q : ℕ × ℕ). q.1) at)))
image_of_pair (p ∷ pairs) rs a c inside (suc k, lt, at) = or_right _ _ (image_of_pair pairs rs a c inside (k, le_of_suc-le-suc lt, at))

-- ---- one character

module _ (given : ℕ) where
  abbrev only : List Range
  only = members (λ d. d == given)

  is_given : (a : ℕ) → in_ranges only a ≡ true → a ≡ given
  is_given a h = eqb-true a given (and_parts _ _ (sym (in_ranges-members (λ d. d == given) a) ∙ h)).1

  given_is : given < 128 → in_ranges only given ≡ true
  given_is below = in_ranges-members (λ d. d == given) given ∙ and_from _ _ (lt-ltb given 0x11_0000 (omega arith)) (eq-eqb given given refl)

  module _ (c : ℕ) (ascii : c < 128) (below : given < 128) where
    folds_alike : (simple_fold given ≡ simple_fold c) → to_ascii_lowercase c ≡ to_ascii_lowercase given
    folds_alike same = sym (simple_fold-ascii c ascii) ∙ sym same ∙ simple_fold-ascii given below

    same_lower : in_unicode_fold only c ≡ true → to_ascii_lowercase c ≡ to_ascii_lowercase given
    unfolding in_unicode_fold
    same_lower h =
        ⊎_elim (λ (here : in_ranges only c ≡ true). ap to_ascii_lowercase (is_given c here))
        (λ image.
        let pair = pair_of_image fold_pairs only c image in
        folds_alike (subst (λ a. simple_fold a ≡ simple_fold c) (is_given pair.0 pair.1) ((IsFoldPairs-fold_pairs pair.0 c).0 pair.2).1))
        (or_cases (in_ranges only c) (in_image fold_pairs only c) h)

    lower_same : to_ascii_lowercase c ≡ to_ascii_lowercase given → in_unicode_fold only c ≡ true
    unfolding in_unicode_fold
    lower_same same =
        ⊎_elim (λ (equal : (given == c) ≡ true). or_left _ _ (subst (λ a. in_ranges only a ≡ true) (eqb-true given c equal) (given_is below)))
        (λ (apart : (given == c) ≡ false).
        let alike = simple_fold-ascii given below ∙ sym same ∙ sym (simple_fold-ascii c ascii) in
        let pair = (IsFoldPairs-fold_pairs given c).1 ((λ e. both_ways _ apart (eq-eqb given c e)), alike) in
        or_right _ _ (image_of_pair fold_pairs only given c (given_is below) pair))
        (cases_Bool (given == c))

    grammar_same_ascii : grammar_same true c given ≡ is_same_character true c given
    unfolding case_fold
    grammar_same_ascii =
        one_answer _ _ (same_lower, lower_same)
        ((λ e. eqb-true (to_ascii_lowercase c) (to_ascii_lowercase given) e), (λ e. eq-eqb (to_ascii_lowercase c) (to_ascii_lowercase given) e))

-- On ASCII the grammar's test of characters is the test by lower case, or by equality.
pub grammar_same-ascii : (ignore_case : Bool) (c given : ℕ) → c < 128 → given < 128 → grammar_same ignore_case c given ≡ is_same_character ignore_case c given
unfolding case_fold
grammar_same-ascii false c given ascii below = refl
grammar_same-ascii true c given ascii below = grammar_same_ascii given c ascii below
