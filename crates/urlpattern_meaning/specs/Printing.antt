-- The pattern text of a list of parts, after the URLPattern Standard, section "Converting part
-- lists to pattern strings". It follows the standard's steps closely; the laws show that the text
-- of printable parts reads as the joined parts.
use Rattle.std.specs.Prelude.{◌≡◌, ◌≢◌, ℕ, Bool, true, false, not, ◌&&◌, ◌||◌, List, [], ◌∷◌, ◌++◌, bytes_eq, codes, Option, Some, None, Result, Ok, IsTrue, if◌then◌else◌, ◌↔◌}
use Rattle.std.specs.{Char.is_ascii_digit, List.flat_map}
use Rattle.urlpattern_syntax.specs.{Errors.ErrorView, Options.OptionsView, Parts.PartView, Reading.Encoding}
use Rattle.urlpattern_syntax.specs.declared.parser.PartType.{PartType}
use Rattle.urlpattern_syntax.specs.RegexpText.{captured, full_wildcard, is_empty, is_fixed_text, is_plain, is_unmodified, modifier_text, segment_wildcard}
use Rattle.urlpattern_syntax.specs.Text.{begins_with, is_name_part}
pub use Rattle.urlpattern_syntax.specs.PatternText.{escaped_pattern, pattern_marks}

-- ---- tests of parts

-- Whether the name of the part is given by a pattern: it does not begin with a digit, as the number
-- of a group without a given name does.
abbrev pub has_custom_name : PartView → Bool
has_custom_name part = not (begins_with is_ascii_digit part.name)

-- Whether the kind is a segment wildcard.
abbrev pub is_segment : PartType → Bool
is_segment PartType.SegmentWildcard = true
is_segment kind = false

-- Whether the part is a segment with a given name, which is printed as a name alone, such as `:id`.
abbrev pub is_name_alone : PartView → Bool
is_name_alone part = is_segment part.kind && has_custom_name part

-- The last character of a text, as a text, or the empty text.
abbrev pub last_of : List ℕ → List ℕ
last_of [] = []
last_of (c ∷ []) = c ∷ []
last_of (c ∷ d ∷ text) = last_of (d ∷ text)

-- The first part of the list, or None if the list is empty.
abbrev pub first_part : List PartView → Option PartView
first_part [] = None
first_part (part ∷ parts) = Some part

-- ---- when a part needs braces

-- Whether the part has a suffix.
abbrev pub has_suffix : PartView → Bool
has_suffix part = not (is_empty part.suffix)

-- Whether the part has a prefix other than the prefix code point.
abbrev pub has_other_prefix : OptionsView → PartView → Bool
has_other_prefix options part =
    not (is_empty part.prefix) && not (bytes_eq part.prefix options.prefix)

-- Whether the start of `next`, printed without braces, would be parsed with a name directly before
-- it: as more of the name, or as its regular expression.
abbrev pub continues_name : PartView → Bool
continues_name next =
    is_empty next.prefix && is_empty next.suffix
    && (if is_fixed_text next.kind then begins_with is_name_part next.value
    else not (has_custom_name next))

-- Whether the part is a name alone without a modifier, and the start of the next part, printed
-- without braces, would be parsed with it. At the end of the list the next part is None.
abbrev pub absorbs_next : PartView → Option PartView → Bool
absorbs_next part None = false
absorbs_next part (Some next) =
    is_name_alone part && is_unmodified part.modifier && continues_name next

-- Whether the part has no prefix, and the part before it is a fixed text that ends with the prefix
-- code point, which without braces could be parsed as the prefix. At the start of the list the part
-- before it is None.
abbrev pub absorbs_before : OptionsView → Option PartView → PartView → Bool
absorbs_before options None part = false
absorbs_before options (Some before) part =
    is_empty part.prefix && is_fixed_text before.kind && not (is_empty before.value)
    && bytes_eq (last_of before.value) options.prefix

-- Whether the part, a group, needs braces between the parts `before` and `next`, None at an end of
-- the list.
abbrev pub needs_braces : OptionsView → (before : Option PartView) → PartView
    → (next : Option PartView) → Bool
needs_braces options before part next =
    has_suffix part || has_other_prefix options part || absorbs_next part next
    || absorbs_before options before part

-- ---- the text of a part

-- Whether an asterisk directly after the part, or first in a pattern (None), is parsed as a
-- wildcard, not as a modifier of the part.
abbrev pub is_wildcard_after : Option PartView → Bool
is_wildcard_after None = true
is_wildcard_after (Some before) = is_fixed_text before.kind || not (is_unmodified before.modifier)

-- Whether the part, if it is a full wildcard, may be printed as an asterisk: it has no given name,
-- and the asterisk cannot be parsed as a modifier of the part `before`. `braces` says whether the
-- part is in braces.
abbrev pub is_asterisk : (before : Option PartView) → PartView → (braces : Bool) → Bool
is_asterisk before part braces =
    not (has_custom_name part) && (is_wildcard_after before || braces || not (is_empty part.prefix))

-- What is printed after the name of a part of this kind: the regular expression in parentheses, an
-- asterisk for a full wildcard if `asterisk` is set (`is_asterisk`), or nothing for a segment with
-- a given name. A fixed text has neither.
abbrev pub printed_match : OptionsView → PartType → PartView → (asterisk : Bool) → List ℕ
printed_match options PartType.FixedText part asterisk = []
printed_match options PartType.Regexp part asterisk = captured part.value
printed_match options PartType.SegmentWildcard part asterisk =
    if has_custom_name part then [] else captured (segment_wildcard options)
printed_match options PartType.FullWildcard part asterisk =
    if asterisk then codes "*" else captured full_wildcard

-- A colon and the name of the part, or nothing if no pattern gives the name.
abbrev pub printed_name : PartView → List ℕ
printed_name part = if has_custom_name part then codes ":" ++ part.name else []

-- The suffix of the part, escaped for a pattern, after a backslash if the suffix would otherwise be
-- parsed as more of the name before it.
abbrev pub printed_suffix : PartView → List ℕ
printed_suffix part =
    (if is_name_alone part && begins_with is_name_part part.suffix then codes "\\" else [])
    ++ escaped_pattern part.suffix

-- The text, between braces if `braces` is set.
abbrev pub in_braces : Bool → List ℕ → List ℕ
in_braces braces text = if braces then codes "{" ++ text ++ codes "}" else text

-- The pattern text of a group with its modifier, between braces if `braces` is set
-- (`needs_braces`), after the part `before` or at the start of the list (None).
abbrev pub printed_group : OptionsView → (before : Option PartView) → PartView
    → (braces : Bool) → List ℕ
printed_group options before part braces =
    in_braces braces (
    escaped_pattern part.prefix ++ printed_name part
    ++ printed_match options part.kind part (is_asterisk before part braces) ++ printed_suffix part)
    ++ modifier_text part.modifier

-- The pattern text of a fixed text, between braces and with its modifier if it has one.
abbrev pub printed_fixed : PartView → List ℕ
printed_fixed part =
    in_braces (not (is_unmodified part.modifier)) (escaped_pattern part.value)
    ++ modifier_text part.modifier

-- The pattern text of a part between the parts `before` and `next`, None at an end of the list.
unfoldable pub printed_part : OptionsView → (before : Option PartView) → PartView
    → (next : Option PartView) → List ℕ
printed_part options before part next =
    if is_fixed_text part.kind then printed_fixed part
    else printed_group options before part (needs_braces options before part next)

-- The pattern text of a list of parts after the part `before`, or at the start of a pattern (None).
abbrev pub printed_after : OptionsView → (before : Option PartView) → List PartView → List ℕ
printed_after options before [] = []
printed_after options before (part ∷ parts) =
    printed_part options before part (first_part parts) ++ printed_after options (Some part) parts

-- The pattern text of a list of parts.
abbrev pub printed : OptionsView → List PartView → List ℕ
printed options parts = printed_after options None parts

-- ---- the parts that the printed text is read as

-- The list of a part and the parts after it, in which the part and the next are one if both are
-- plain fixed texts, that is, fixed texts without a modifier.
abbrev pub joined_with : PartView → List PartView → List PartView
joined_with part [] = part ∷ []
joined_with part (next ∷ parts) =
    if is_plain part && is_plain next then record part { value = part.value ++ next.value } ∷ parts
    else part ∷ next ∷ parts

-- The parts, with neighbouring plain fixed texts joined into one.
abbrev pub joined : List PartView → List PartView
joined [] = []
joined (part ∷ parts) = joined_with part (joined parts)

-- No fixed text is empty.
abbrev pub HaveTexts : List PartView → Type 0
HaveTexts [] = Unit {0}
HaveTexts (part ∷ parts) = (IsTrue (is_fixed_text part.kind) → part.value ≢ []) × HaveTexts parts

-- The texts that a parser passes to the encoding for these parts: the values of fixed texts, and
-- the prefixes and suffixes of groups.
abbrev pub encoded_texts : List PartView → List (List ℕ)
encoded_texts parts =
    flat_map
    (λ part. if is_fixed_text part.kind then part.value ∷ [] else part.prefix ∷ part.suffix ∷ [])
    parts

-- The only result of the encoding for each text is the text itself.
abbrev pub KeepsTexts : Encoding → List (List ℕ) → Type 0
KeepsTexts encoding [] = Unit {0}
KeepsTexts encoding (text ∷ texts) =
    ((answer : Result (List ℕ) ErrorView) → encoding text answer ↔ (answer ≡ Ok text))
    × KeepsTexts encoding texts

-- The encoding keeps the texts of the joined parts, and the empty text: the only result for each is
-- the text itself.
abbrev pub Keeps : Encoding → List PartView → Type 0
Keeps encoding parts = KeepsTexts encoding ([] ∷ encoded_texts (joined parts))
