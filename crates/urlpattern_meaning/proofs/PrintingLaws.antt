-- Laws of printed patterns: neighbouring plain fixed texts print as one.
use Rattle.std.proofs.Common.{◌≡◌, ◌≢◌, ℕ, List, [], ◌∷◌, ◌++◌, refl, sym, ap, Bool, true, false, Some, None, Option, append_assoc, ◌∙◌}
use Rattle.std.proofs.lemmas.List.{append-nil}
use Rattle.std.specs.Prelude.{IsTrue, ◌&&◌, ◌||◌, not, if◌then◌else◌}
use Rattle.urlpattern_syntax.specs.declared.parser.PartModifier.{PartModifier}
use Rattle.urlpattern_syntax.specs.declared.parser.PartModifier.TheVariants as modifiers
use Rattle.urlpattern_syntax.specs.declared.parser.PartType.{PartType}
use Rattle.urlpattern_syntax.specs.declared.parser.PartType.TheVariants.{FixedText}
use Rattle.urlpattern_syntax.specs.Options.{OptionsView}
use Rattle.urlpattern_syntax.specs.Parts.{PartView}
use Rattle.urlpattern_meaning.specs.Printing.{HaveTexts, is_wildcard_after, escaped_pattern, first_part, has_custom_name, has_other_prefix, has_suffix, in_braces, is_name_alone, joined, joined_with, last_of, pattern_marks, printed, printed_after, printed_fixed, printed_match, printed_name, printed_part, printed_suffix, absorbs_before, absorbs_next}
use Rattle.urlpattern_syntax.specs.RegexpText.{is_empty, is_fixed_text, is_plain, is_unmodified, modifier_text}
use Rattle.urlpattern_syntax.specs.Text.{begins_with, is_name_part}
use Rattle.urlpattern_syntax.proofs.Escaped.{escaped-append}
use Rattle.urlpattern_meaning.proofs.MeaningLaws.{with_value}
use Rattle.urlpattern_syntax.proofs.TokenExamples.{no}
use Rattle.urlpattern_meaning.proofs.MatchingLaws.{and_right}

-- ---- tests of the neighbours of a part

-- A part as it is printed by the tests of its neighbours.
abbrev pub shaped : OptionsView → PartView → (next_taken before_taken admits : Bool) → List ℕ
shaped options part next_taken before_taken admits =
    let braces = has_suffix part || has_other_prefix options part || next_taken || before_taken in
    if is_fixed_text part.kind then printed_fixed part
    else (in_braces braces (
    escaped_pattern part.prefix ++ printed_name part
    ++ printed_match options part.kind part (not (has_custom_name part) && (admits || braces || not (is_empty part.prefix))) ++ printed_suffix part)
    ++ modifier_text part.modifier)

printed-shaped : (options : OptionsView) (before : Option PartView) (part : PartView) (next : Option PartView) →
    printed_part options before part next ≡ shaped options part (absorbs_next part next) (absorbs_before options before part) (is_wildcard_after before)
unfolding printed_part
printed-shaped options before part next = refl

-- ---- texts that are not empty

begins-append : (test : ℕ → Bool) (text more : List ℕ) → text ≢ [] → begins_with test (text ++ more) ≡ begins_with test text
begins-append test [] more h = absurd (h refl)
begins-append test (c ∷ text) more h = refl

last-append : (text more : List ℕ) → more ≢ [] → last_of (text ++ more) ≡ last_of more
last-append [] more h = refl
last-append (c ∷ []) [] h = absurd (h refl)
last-append (c ∷ []) (d ∷ more) h = refl
last-append (c ∷ d ∷ text) more h = last-append (d ∷ text) more h

empty-append : (text more : List ℕ) → more ≢ [] → is_empty (text ++ more) ≡ false
empty-append [] [] h = absurd (h refl)
empty-append [] (c ∷ more) h = refl
empty-append (c ∷ text) more h = refl

append-filled : (text more : List ℕ) → more ≢ [] → text ++ more ≢ []
append-filled [] more h e = h e
append-filled (c ∷ text) more h e = cc e

-- ---- plain fixed texts

pub plain_kind : (kind : PartType) (modifier : PartModifier) → IsTrue (is_fixed_text kind && is_unmodified modifier) → kind ≡ FixedText
plain_kind FixedText modifier h = refl
plain_kind kind modifier h = absurd (no h)

pub plain_fixed : (part : PartView) → IsTrue (is_plain part) → IsTrue (is_fixed_text part.kind)
plain_fixed part h = ap is_fixed_text (plain_kind part.kind part.modifier h)

pub plain_modifier : (kind : PartType) (modifier : PartModifier) → IsTrue (is_fixed_text kind && is_unmodified modifier) → modifier ≡ modifiers.None
plain_modifier FixedText modifiers.None h = refl
plain_modifier kind modifier h = absurd (no h)

-- A plain fixed text prints as itself.
pub plain_printed : (options : OptionsView) (before : Option PartView) (part : PartView) (next : Option PartView) → IsTrue (is_plain part) → printed_part options before part next ≡ escaped_pattern part.value
unfolding printed_part
plain_printed options before part next h =
    rw (plain_fixed part h, plain_modifier part.kind part.modifier h) (append-nil (escaped_pattern part.value))

-- ---- neighbours

-- Parts before with equal tests print alike.
same_before : (options : OptionsView) (a b : Option PartView) (part : PartView) (next : Option PartView) →
    absorbs_before options a part ≡ absorbs_before options b part → is_wildcard_after a ≡ is_wildcard_after b → printed_part options a part next ≡ printed_part options b part next
same_before options a b part next e f =
    printed-shaped options a part next
    ∙ ap (λ t. shaped options part (absorbs_next part next) t (is_wildcard_after a)) e
    ∙ ap (λ t. shaped options part (absorbs_next part next) (absorbs_before options b part) t) f
    ∙ sym (printed-shaped options b part next)

same_after : (options : OptionsView) (a b : Option PartView) (parts : List PartView) →
    ((part : PartView) → absorbs_before options a part ≡ absorbs_before options b part) → is_wildcard_after a ≡ is_wildcard_after b → printed_after options a parts ≡ printed_after options b parts
same_after options a b [] e f = refl
same_after options a b (part ∷ parts) e f =
    ap (λ t. t ++ printed_after options (Some part) parts) (same_before options a b part (first_part parts) (e part) f)

-- Parts after with equal tests print alike.
same_next : (options : OptionsView) (before : Option PartView) (part : PartView) (a b : Option PartView) →
    absorbs_next part a ≡ absorbs_next part b → printed_part options before part a ≡ printed_part options before part b
same_next options before part a b e =
    printed-shaped options before part a
    ∙ ap (λ t. shaped options part t (absorbs_before options before part) (is_wildcard_after before)) e
    ∙ sym (printed-shaped options before part b)

-- Two texts in one end as the second does.
one_before : (options : OptionsView) (part next : PartView) → IsTrue (is_plain part) → IsTrue (is_plain next) → next.value ≢ [] →
    (behind : PartView) → absorbs_before options (Some (with_value part (part.value ++ next.value))) behind ≡ absorbs_before options (Some next) behind
one_before options part next plain plain_next filled behind =
    rw (plain_fixed part plain, plain_fixed next plain_next, empty-append part.value next.value filled, empty-append [] next.value filled, last-append part.value next.value filled)

one_admits : (part next : PartView) → IsTrue (is_plain part) → IsTrue (is_plain next) → is_wildcard_after (Some (with_value part (part.value ++ next.value))) ≡ is_wildcard_after (Some next)
one_admits part next plain plain_next = rw (plain_fixed part plain, plain_fixed next plain_next)

-- ---- joining

-- Two plain fixed texts print as one.
pair_printed : (options : OptionsView) (before : Option PartView) (part next : PartView) (parts : List PartView) → IsTrue (is_plain part) → IsTrue (is_plain next) → next.value ≢ [] →
    printed_after options before (with_value part (part.value ++ next.value) ∷ parts) ≡ printed_after options before (part ∷ next ∷ parts)
pair_printed options before part next parts plain plain_next filled =
    let one = with_value part (part.value ++ next.value) in
    let behind = printed_after options (Some next) parts in
    ap (λ t. t ++ printed_after options (Some one) parts) (plain_printed options before one (first_part parts) plain ∙ escaped-append pattern_marks part.value next.value)
    ∙ ap (λ t. escaped_pattern part.value ++ escaped_pattern next.value ++ t)
    (same_after options (Some one) (Some next) parts (one_before options part next plain plain_next filled) (one_admits part next plain plain_next))
    ∙ append_assoc (escaped_pattern part.value) (escaped_pattern next.value) behind
    ∙ sym (ap (λ t. t ++ (printed_part options (Some part) next (first_part parts) ++ behind)) (plain_printed options before part (Some next) plain)
    ∙ ap (λ t. escaped_pattern part.value ++ (t ++ behind)) (plain_printed options (Some part) next (first_part parts) plain_next))

-- The first part and the next, joined or not.
joined_pair : (options : OptionsView) (before : Option PartView) (part next : PartView) (parts : List PartView) (plain plain_next : Bool) →
    is_plain part ≡ plain → is_plain next ≡ plain_next → (IsTrue (is_fixed_text next.kind) → next.value ≢ []) →
    printed_after options before (if plain && plain_next then with_value part (part.value ++ next.value) ∷ parts else part ∷ next ∷ parts) ≡ printed_after options before (part ∷ next ∷ parts)
joined_pair options before part next parts true true e f filled = pair_printed options before part next parts e f (filled (plain_fixed next f))
joined_pair options before part next parts plain plain_next e f filled = refl

joined_first : (options : OptionsView) (before : Option PartView) (part : PartView) (parts : List PartView) → HaveTexts parts →
    printed_after options before (joined_with part parts) ≡ printed_after options before (part ∷ parts)
joined_first options before part [] filled = refl
joined_first options before part (next ∷ parts) filled = joined_pair options before part next parts (is_plain part) (is_plain next) refl refl filled.0

-- No fixed text becomes empty.
texts_pair : (part next : PartView) (parts : List PartView) (both : Bool) → (IsTrue (is_fixed_text part.kind) → part.value ≢ []) → HaveTexts (next ∷ parts) → (IsTrue both → next.value ≢ []) →
    HaveTexts (if both then with_value part (part.value ++ next.value) ∷ parts else part ∷ next ∷ parts)
texts_pair part next parts true filled more next_filled = ((λ h. append-filled part.value next.value (next_filled refl)), more.1)
texts_pair part next parts false filled more next_filled = (filled, more)

texts_first : (part : PartView) (parts : List PartView) → (IsTrue (is_fixed_text part.kind) → part.value ≢ []) → HaveTexts parts → HaveTexts (joined_with part parts)
texts_first part [] filled more = (filled, tt)
texts_first part (next ∷ parts) filled more =
    texts_pair part next parts (is_plain part && is_plain next) filled more (λ h. more.0 (plain_fixed next (and_right (is_plain part) (is_plain next) h)))

pub joined_texts : (parts : List PartView) → HaveTexts parts → HaveTexts (joined parts)
joined_texts [] filled = tt
joined_texts (part ∷ parts) filled = texts_first part (joined parts) filled.0 (joined_texts parts filled.1)

-- A joined list begins as the list does.
goes_pair : (part next : PartView) (parts : List PartView) (both : Bool) (before : PartView) → (IsTrue (is_fixed_text part.kind) → part.value ≢ []) →
    absorbs_next before (first_part (if both then with_value part (part.value ++ next.value) ∷ parts else part ∷ next ∷ parts)) ≡ absorbs_next before (Some part)
goes_pair part next parts true before filled = ap (λ t. is_name_alone before && is_unmodified before.modifier && t) (goes_value (is_fixed_text part.kind) filled)
  where
    goes_value : (fixed : Bool) → (IsTrue fixed → part.value ≢ []) →
        (is_empty part.prefix && is_empty part.suffix && (if fixed then begins_with is_name_part (part.value ++ next.value) else not (has_custom_name part)))
        ≡ (is_empty part.prefix && is_empty part.suffix && (if fixed then begins_with is_name_part part.value else not (has_custom_name part)))
    goes_value true filled = ap (λ t. is_empty part.prefix && is_empty part.suffix && t) (begins-append is_name_part part.value next.value (filled refl))
    goes_value false filled = refl
goes_pair part next parts false before filled = refl

goes_first : (part : PartView) (parts : List PartView) (before : PartView) → (IsTrue (is_fixed_text part.kind) → part.value ≢ []) →
    absorbs_next before (first_part (joined_with part parts)) ≡ absorbs_next before (Some part)
goes_first part [] before filled = refl
goes_first part (next ∷ parts) before filled = goes_pair part next parts (is_plain part && is_plain next) before filled

goes_joined : (parts : List PartView) (before : PartView) → HaveTexts parts → absorbs_next before (first_part (joined parts)) ≡ absorbs_next before (first_part parts)
goes_joined [] before filled = refl
goes_joined (part ∷ parts) before filled = goes_first part (joined parts) before filled.0

printed_joined_after : (options : OptionsView) (before : Option PartView) (parts : List PartView) → HaveTexts parts → printed_after options before (joined parts) ≡ printed_after options before parts
printed_joined_after options before [] filled = refl
printed_joined_after options before (part ∷ parts) filled =
    joined_first options before part (joined parts) (joined_texts parts filled.1)
    ∙ ap (λ t. t ++ printed_after options (Some part) (joined parts)) (same_next options before part (first_part (joined parts)) (first_part parts) (goes_joined parts part filled.1))
    ∙ ap (λ t. printed_part options before part (first_part parts) ++ t) (printed_joined_after options (Some part) parts filled.1)

-- Joining changes no printed text, where no fixed text is empty.
pub printed_joined : (options : OptionsView) (parts : List PartView) → HaveTexts parts → printed options (joined parts) ≡ printed options parts
printed_joined options parts filled = printed_joined_after options None parts filled
