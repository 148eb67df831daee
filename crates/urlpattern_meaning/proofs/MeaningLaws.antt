-- Laws of the meaning of parts: plain fixed texts at the ends are removed, neighbouring ones are
-- one, and copies are one capture.
use Rattle.std.proofs.Common.{◌≡◌, ℕ, zero, suc, List, [], ◌∷◌, ◌++◌, refl, sym, subst, ap, Bool, true, Some, None, Option, append_assoc, ◌∙◌, ◌↔◌}
use Rattle.std.proofs.lemmas.List.{append-nil}
use Rattle.std.specs.Prelude.{IsTrue, ◌&&◌, if◌then◌else◌, option_to_list}
use Rattle.urlpattern_syntax.specs.declared.parser.PartModifier.{PartModifier}
use Rattle.urlpattern_syntax.specs.declared.parser.PartModifier.TheVariants as modifiers
use Rattle.urlpattern_syntax.specs.declared.parser.PartType.{PartType}
use Rattle.urlpattern_syntax.specs.declared.parser.PartType.TheVariants.{FixedText, SegmentWildcard, FullWildcard}
use Rattle.urlpattern_meaning.specs.Matching.{AreStripped, IsRemoved, end_text}
use Rattle.urlpattern_syntax.specs.Options.{OptionsView}
use Rattle.urlpattern_meaning.specs.PartMeaning.{Allows, AreCaptures, AreCopies, Captures, IsCapture, IsCopyOf, PartMeans, PartsMean}
use Rattle.urlpattern_syntax.specs.Parts.{PartView}
use Rattle.urlpattern_meaning.specs.Printing.{joined, joined_with}
use Rattle.urlpattern_syntax.specs.RegexpText.{IsWildcard, is_fixed_text, is_plain, is_unmodified}
use Rattle.urlpattern_syntax.specs.Text.{IsRepeated}
use Rattle.urlpattern_meaning.proofs.MeaningExamples.{part_alone}
use Rattle.urlpattern_syntax.proofs.TokenExamples.{no}

-- ---- lists of parts

-- Two lists of parts one after the other.
pub parts-append : (options : OptionsView) (parts others : List PartView) (text rest : List ℕ) (captures more : Captures) →
    PartsMean options parts text captures → PartsMean options others rest more → PartsMean options (parts ++ others) (text ++ rest) (captures ++ more)
parts-append options [] others text rest captures more (e, f) means = rw (e, f) means
parts-append options (part ∷ parts) others text rest captures more (first, left, own, behind, e, f, mean, means) others_mean = (
  first,
  left ++ rest,
  own,
  behind ++ more,
  rw e (append_assoc first left rest),
  rw f (append_assoc own behind more),
  mean,
  parts-append options parts others left rest behind more means others_mean,
)

-- The texts of two lists.
pub record AreTwo (options : OptionsView) (parts others : List PartView) (text : List ℕ) (captures : Captures) : Type 0 where
  pub first : List ℕ
  pub rest : List ℕ
  pub own : Captures
  pub more : Captures
  pub text_cut : text ≡ first ++ rest
  pub captures_cut : captures ≡ own ++ more
  pub first_means : PartsMean options parts first own
  pub rest_means : PartsMean options others rest more

pub parts_cut : {options : OptionsView} (parts others : List PartView) {text : List ℕ} {captures : Captures} → PartsMean options (parts ++ others) text captures → AreTwo options parts others text captures
parts_cut [] others {text} {captures} means =
    record { first = []; rest = text; own = []; more = captures; text_cut = refl; captures_cut = refl; first_means = (refl, refl); rest_means = means }
parts_cut (part ∷ parts) others (first, left, own, behind, e, f, mean, means) =
    let two = parts_cut parts others means in
    record {
      first = first ++ two.first;
      rest = two.rest;
      own = own ++ two.own;
      more = two.more;
      text_cut = e ∙ ap (λ left. first ++ left) two.text_cut ∙ (sym (append_assoc first two.first two.rest));
      captures_cut = f ∙ ap (λ left. own ++ left) two.captures_cut ∙ (sym (append_assoc own two.own two.more));
      first_means = (first, two.first, own, two.own, refl, refl, mean, two.first_means);
      rest_means = two.rest_means;
    }

-- ---- plain fixed texts

-- A text that is a single copy.
pub one_copy : (Is : List ℕ → Type 0) (n : ℕ) (text : List ℕ) → IsRepeated Is n text → n ≡ 1 → Is text
one_copy Is n text copies e = alone (rw e at copies)
  where
    alone : IsRepeated Is 1 text → Is text
    alone (first, rest, cut, is, ended) = rw (cut, ended, append-nil first) is

-- A part of the kind and the modifier of a plain fixed text.
plain_by : {options : OptionsView} {text : List ℕ} {captures : Captures} (kind : PartType) (modifier : PartModifier) (value name prefix suffix : List ℕ) →
    IsTrue (is_fixed_text kind && is_unmodified modifier) →
    PartMeans options (record { kind = kind; value = value; modifier = modifier; name = name; prefix = prefix; suffix = suffix }) text captures ↔ ((text ≡ value) × (captures ≡ []))
plain_by FixedText modifiers.None value name prefix suffix h = (
  λ means. (one_copy _ _ _ means.are_copies means.allowed, means.are_captures),
  λ is. record { count = 1; allowed = refl; are_copies = (_, [], sym (append-nil _), is.0, refl); are_captures = is.1 },
)
plain_by kind modifier value name prefix suffix h = absurd (no h)

-- A plain fixed text matches itself and captures nothing.
pub plain_means : {options : OptionsView} {text : List ℕ} {captures : Captures} (part : PartView) → IsTrue (is_plain part) → PartMeans options part text captures ↔ ((text ≡ part.value) × (captures ≡ []))
plain_means part h = plain_by part.kind part.modifier part.value part.name part.prefix part.suffix h

-- ---- peeling

-- An end that is removed matches its text.
end_means : (options : OptionsView) (end : Option PartView) (IsThere : Type 0) (text : List ℕ) (captures : Captures) → IsRemoved end IsThere → PartsMean options (option_to_list end) text captures ↔ ((text ≡ end_text end) × (captures ≡ []))
end_means options None IsThere text captures goes = (λ means. means, λ means. means)
end_means options (Some part) IsThere text captures goes = (
  λ means. (plain_means part goes).0 (part_alone means),
  λ is. (text, [], captures, [], sym (append-nil text), sym (append-nil captures), (plain_means part goes).1 is, (refl, refl)),
)

-- Parts from which plain fixed texts are removed match exactly prefix, a text that the remaining
-- parts match, and suffix.
pub peeled_means : (options : OptionsView) (parts : List PartView) (front : Option PartView) (middle : List PartView) (back : Option PartView) (text : List ℕ) (captures : Captures) →
    AreStripped parts front middle back →
    PartsMean options parts text captures ↔ ((inner : List ℕ) × (text ≡ end_text front ++ inner ++ end_text back) × PartsMean options middle inner captures)
peeled_means options parts front middle back text captures peeled = (
  λ means.
      let cut : PartsMean options (option_to_list front ++ middle ++ option_to_list back) text captures = rw peeled.cut at means in
      let two = parts_cut (option_to_list front ++ middle) (option_to_list back) cut in
      let three = parts_cut (option_to_list front) middle two.first_means in
      let first = (end_means options front _ three.first three.own peeled.front_removed).0 three.first_means in
      let last = (end_means options back _ two.rest two.more peeled.back_removed).0 two.rest_means in
      let same : captures ≡ three.more = two.captures_cut ∙ ap (λ t. two.own ++ t) last.1 ∙ append-nil two.own ∙ three.captures_cut ∙ ap (λ t. t ++ three.more) first.1 in (
        three.rest,
        two.text_cut ∙ ap (λ t. two.first ++ t) last.0 ∙ ap (λ t. t ++ end_text back) (three.text_cut ∙ ap (λ t. t ++ three.rest) first.0),
        subst (λ c. PartsMean options middle three.rest c) (sym same) three.rest_means,
      ),
  λ is.
      let before : PartsMean options (option_to_list front ++ middle) (end_text front ++ is.0) captures =
      parts-append options (option_to_list front) middle (end_text front) is.0 [] captures
      ((end_means options front _ (end_text front) [] peeled.front_removed).1 (refl, refl)) is.2 in
      let whole : PartsMean options (option_to_list front ++ middle ++ option_to_list back) (end_text front ++ is.0 ++ end_text back) (captures ++ []) =
      parts-append options (option_to_list front ++ middle) (option_to_list back) (end_text front ++ is.0) (end_text back) captures [] before
      ((end_means options back _ (end_text back) [] peeled.back_removed).1 (refl, refl)) in
      rw (peeled.cut, is.1) (rw (append-nil captures) at whole),
)

-- ---- joining

-- Parts before lists that mean the same.
same_behind : (options : OptionsView) (part : PartView) (parts others : List PartView) →
    ((text : List ℕ) (captures : Captures) → PartsMean options parts text captures → PartsMean options others text captures) →
    (text : List ℕ) (captures : Captures) → PartsMean options (part ∷ parts) text captures → PartsMean options (part ∷ others) text captures
same_behind options part parts others same text captures (first, rest, own, behind, e, f, mean, means) =
    (first, rest, own, behind, e, f, mean, same rest behind means)

abbrev pub with_value : PartView → List ℕ → PartView
with_value part value = record part { value = value }

-- Two plain fixed texts as one.
one_of_two : (options : OptionsView) (part next : PartView) (parts : List PartView) → IsTrue (is_plain part) → IsTrue (is_plain next) →
    (text : List ℕ) (captures : Captures) → PartsMean options (with_value part (part.value ++ next.value) ∷ parts) text captures ↔ PartsMean options (part ∷ next ∷ parts) text captures
one_of_two options part next parts plain plain_next text captures = (
  λ (first, rest, own, behind, e, f, mean, means).
      let is = (plain_means (with_value part (part.value ++ next.value)) plain).0 mean in (
        part.value,
        next.value ++ rest,
        [],
        behind,
        e ∙ ap (λ t. t ++ rest) is.0 ∙ append_assoc part.value next.value rest,
        f ∙ ap (λ t. t ++ behind) is.1,
        (plain_means part plain).1 (refl, refl),
        (next.value, rest, [], behind, refl, refl, (plain_means next plain_next).1 (refl, refl), means),
      ),
  λ (first, rest, own, behind, e, f, mean, (second, left, more, others, g, h, next_mean, means)).
      let is = (plain_means part plain).0 mean in
      let is_next = (plain_means next plain_next).0 next_mean in (
        part.value ++ next.value,
        left,
        [],
        others,
        e ∙ ap (λ t. t ++ rest) is.0 ∙ ap (λ t. part.value ++ t) (g ∙ ap (λ t. t ++ left) is_next.0) ∙ sym (append_assoc part.value next.value left),
        f ∙ ap (λ t. t ++ behind) is.1 ∙ h ∙ ap (λ t. t ++ others) is_next.1,
        (plain_means (with_value part (part.value ++ next.value)) plain).1 (refl, refl),
        means,
      ),
)

-- The first part and the next, joined or not.
joined_pair : (options : OptionsView) (part next : PartView) (parts : List PartView) (text : List ℕ) (captures : Captures) (plain plain_next : Bool) →
    is_plain part ≡ plain → is_plain next ≡ plain_next →
    PartsMean options (if plain && plain_next then with_value part (part.value ++ next.value) ∷ parts else part ∷ next ∷ parts) text captures ↔ PartsMean options (part ∷ next ∷ parts) text captures
joined_pair options part next parts text captures true true e f = one_of_two options part next parts e f text captures
joined_pair options part next parts text captures plain plain_next e f = (λ means. means, λ means. means)

joined_first : (options : OptionsView) (part : PartView) (parts : List PartView) (text : List ℕ) (captures : Captures) →
    PartsMean options (joined_with part parts) text captures ↔ PartsMean options (part ∷ parts) text captures
joined_first options part [] text captures = (λ means. means, λ means. means)
joined_first options part (next ∷ parts) text captures = joined_pair options part next parts text captures (is_plain part) (is_plain next) refl refl

-- Joining neighbouring plain fixed texts changes no meaning.
pub joined_means : (options : OptionsView) (parts : List PartView) (text : List ℕ) (captures : Captures) → PartsMean options (joined parts) text captures ↔ PartsMean options parts text captures
joined_means options [] text captures = (λ means. means, λ means. means)
joined_means options (part ∷ parts) text captures = (
  λ means. same_behind options part (joined parts) parts (λ t c. (joined_means options parts t c).0) text captures ((joined_first options part (joined parts) text captures).0 means),
  λ means. (joined_first options part (joined parts) text captures).1 (same_behind options part parts (joined parts) (λ t c. (joined_means options parts t c).1) text captures means),
)

-- ---- copies

-- The text of all copies but the first prefix and the last suffix.
inner_text : (prefix suffix first rest piece inner : List ℕ) → first ≡ prefix ++ piece ++ suffix → rest ≡ prefix ++ inner ++ suffix →
    first ++ rest ≡ prefix ++ (piece ++ suffix ++ (prefix ++ inner)) ++ suffix
inner_text prefix suffix first rest piece inner e f =
    ap (λ t. t ++ rest) e ∙ ap (λ t. prefix ++ piece ++ suffix ++ t) f
    ∙ sym (append_assoc (prefix ++ piece ++ suffix) (prefix ++ inner) suffix)
    ∙ ap (λ t. t ++ suffix) (ap (λ t. t ++ (prefix ++ inner)) (append_assoc prefix piece suffix) ∙ append_assoc prefix (piece ++ suffix) (prefix ++ inner))

-- A copy of a wildcard has prefix and suffix.
copy_text : (options : OptionsView) (kind : PartType) (part : PartView) (text : List ℕ) → IsWildcard kind → IsCopyOf options kind part text → (piece : List ℕ) × (text ≡ part.prefix ++ piece ++ part.suffix)
copy_text options SegmentWildcard part text h (piece, e, is) = (piece, e)
copy_text options FullWildcard part text h (piece, e, is) = (piece, e)
copy_text options kind part text h copy = absurd h

-- Copies of a wildcard have the first prefix and the last suffix.
copies_text : (options : OptionsView) (part : PartView) (n : ℕ) (text : List ℕ) → IsWildcard part.kind → AreCopies options part (suc n) text → (inner : List ℕ) × (text ≡ part.prefix ++ inner ++ part.suffix)
copies_text options part zero text h (first, rest, cut, copy, ended) =
    let one = copy_text options part.kind part first h copy in
    (one.0, cut ∙ ap (λ t. first ++ t) ended ∙ append-nil first ∙ one.1)
copies_text options part (suc n) text h (first, rest, cut, copy, copies) =
    let one = copy_text options part.kind part first h copy in
    let more = copies_text options part n rest h copies in
    (one.0 ++ part.suffix ++ (part.prefix ++ more.0), cut ∙ inner_text part.prefix part.suffix first rest one.0 more.0 one.1 more.1)

-- The captures of a wildcard's copies.
captures_by : (kind : PartType) (part : PartView) (n : ℕ) (text : List ℕ) (captures : Captures) → IsWildcard kind → AreCaptures kind part n text captures ↔ ((capture : Option (List ℕ)) × IsCapture part n text capture × (captures ≡ capture ∷ []))
captures_by SegmentWildcard part n text captures h = (λ captured. captured, λ captured. captured)
captures_by FullWildcard part n text captures h = (λ captured. captured, λ captured. captured)
captures_by kind part n text captures h = absurd h

-- Copies of a wildcard are captured without the first prefix and the last suffix.
pub copies_captured : (options : OptionsView) (part : PartView) (n : ℕ) (text : List ℕ) → IsWildcard part.kind → Allows part.modifier (suc n) → AreCopies options part (suc n) text →
    (inner : List ℕ) × (text ≡ part.prefix ++ inner ++ part.suffix) × PartMeans options part text (Some inner ∷ [])
copies_captured options part n text h allowed copies =
    let inner = copies_text options part n text h copies in (
      inner.0,
      inner.1,
      record {
        count = suc n;
        allowed = allowed;
        are_copies = copies;
        are_captures = (captures_by part.kind part (suc n) text _ h).1 (Some inner.0, (inner.0, inner.1, refl), refl);
      },
    )
