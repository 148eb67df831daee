-- The name and the regular expression of a group, as they are printed: their tokens, and their
-- placeholder.
use Rattle.std.proofs.Common.{◌≡◌, ◌≢◌, ℕ, suc, Bool, true, false, List, [], ◌∷◌, ◌++◌, Option, Some, None, refl, sym, ap, ◌∙◌, subst, inl, inr, lit<}
use Rattle.std.specs.Prelude.{IsTrue, bytes_eq, codes, decimal, not, ◌&&◌, slice_index, if◌then◌else◌}
use Rattle.std.specs.Char.{is_ascii_digit}
use Rattle.std.proofs.lemmas.Bool.{and_from, both_ways, false≢true, not-false}
use Rattle.urlpattern_syntax.proofs.ReadingLemmas.{kind_custom, kind_full, kind_segment}
use Rattle.urlpattern_syntax.proofs.TokenExamples.{no}
use Rattle.urlpattern_syntax.specs.declared.parser.PartType.{PartType}
use Rattle.urlpattern_syntax.specs.declared.parser.PartType.TheVariants.{FixedText, FullWildcard, Regexp, SegmentWildcard}
use Rattle.urlpattern_syntax.specs.declared.parser.RegexSyntax.{RegexSyntax}
use Rattle.urlpattern_syntax.specs.declared.tokenizer.TokenType.{TokenType}
use Rattle.urlpattern_syntax.specs.declared.tokenizer.TokenType.TheVariants as tokens
use Rattle.urlpattern_syntax.specs.Options.{OptionsView}
use Rattle.urlpattern_syntax.specs.Parts.{PartView}
use Rattle.urlpattern_syntax.specs.Pieces.{BeginsWithKind, IsPlaceholderOf, PlaceholderKindView, Placeholder, TakesRegexp, is_modifier, is_regexp, kinds, PlaceholderKindView as matched}
use Rattle.urlpattern_syntax.specs.Reading.{placeholder_regexp, kind_of, name_or, next_number, value_of}
use Rattle.urlpattern_syntax.specs.RegexpText.{captured, full_wildcard, is_fixed_text, segment_wildcard, segment_wildcard_of}
use Rattle.urlpattern_syntax.specs.Text.{BeginsWith, begins_with, is_name_part}
use Rattle.urlpattern_syntax.specs.Tokens.{IsName, IsRegexpBody, TokenView, Body as bodies}
use Rattle.urlpattern_meaning.specs.Printing.{has_custom_name, is_segment, printed_match, printed_name}
use Rattle.urlpattern_meaning.specs.RoundTrip.{FieldsFitKind, IsNamed, following_number}
use Rattle.urlpattern_syntax.proofs.NameCharacters.{decimal_digited, name_not_digited}
use Rattle.urlpattern_meaning.proofs.PrintedTokens.{Run, asterisk_lexed, done, mark_ends, name_lexed, next, regexp_lexed, token_at}

-- ---- the wildcards

pub full_body : IsRegexpBody full_wildcard
full_body = record {
  body = bodies.Plain (slice_index (codes ".") 0) (bodies.Plain (slice_index (codes "*") 0) bodies.Nothing);
  is_body = (lit< tt, both_ways _ refl, (lit< tt, both_ways _ refl, tt));
  spelled = refl;
  not_empty = λ e. cc e;
  not_marked = both_ways _ refl;
}

full_other : (syntax : RegexSyntax) (delimiter : Option ℕ) → full_wildcard ≢ segment_wildcard_of syntax delimiter
full_other syntax None e = false≢true (sym (ap (λ t. bytes_eq t full_wildcard) e))
full_other syntax (Some c) e = false≢true (sym (ap (λ t. bytes_eq t full_wildcard) e))

-- ---- the placeholder of a part

-- A name that the pattern gives.
abbrev pub name_by : (custom : Bool) → List ℕ → Option (List ℕ)
name_by custom name = if custom then Some name else None

abbrev matched_by : (custom asterisk : Bool) → OptionsView → PartType → (value : List ℕ) → PlaceholderKindView
matched_by custom asterisk options FixedText value = matched.Segment
matched_by custom asterisk options Regexp value = matched.Custom value
matched_by custom asterisk options SegmentWildcard value = if custom then matched.Segment else matched.Custom (segment_wildcard options)
matched_by custom asterisk options FullWildcard value = if asterisk then matched.Anything else matched.Custom full_wildcard

abbrev pub placeholder_of : OptionsView → PartType → PartView → (asterisk : Bool) → Placeholder
placeholder_of options kind part asterisk =
    record { name = name_by (has_custom_name part) part.name; matched = matched_by (has_custom_name part) asterisk options kind part.value }

-- ---- the part of a placeholder

digited_or : (digited : Bool) → digited ≡ true → not digited ≡ true → ⊥
digited_or true e f = no f
digited_or false e f = no e

-- A group's name is one that the pattern gives, or a number.
name_given : (number : ℕ) (kind : PartType) (name : List ℕ) → is_fixed_text kind ≡ false → IsNamed number kind name → not (begins_with is_ascii_digit name) ≡ true → IsName name
name_given number FixedText name group h e = absurd (false≢true (sym group))
name_given number Regexp name group (inl h) e = h
name_given number SegmentWildcard name group (inl h) e = h
name_given number FullWildcard name group (inl h) e = h
name_given number kind name group (inr h) e = absurd (digited_or (begins_with is_ascii_digit name) (ap (begins_with is_ascii_digit) h ∙ decimal_digited number) e)

name_counted : (number : ℕ) (kind : PartType) (name : List ℕ) → is_fixed_text kind ≡ false → IsNamed number kind name → not (begins_with is_ascii_digit name) ≡ false → name ≡ decimal number
name_counted number FixedText name group h e = absurd (false≢true (sym group))
name_counted number Regexp name group (inr h) e = h
name_counted number SegmentWildcard name group (inr h) e = h
name_counted number FullWildcard name group (inr h) e = h
name_counted number kind name group (inl h) e = absurd (false≢true (sym (name_not_digited name h) ∙ not-false (begins_with is_ascii_digit name) e))

name_shown : (number : ℕ) (kind : PartType) (name : List ℕ) (custom : Bool) → is_fixed_text kind ≡ false → IsNamed number kind name → not (begins_with is_ascii_digit name) ≡ custom → name_or (name_by custom name) number ≡ name
name_shown number kind name true group h e = refl
name_shown number kind name false group h e = sym (name_counted number kind name group h e)

number_shown : (number : ℕ) (kind : PartType) (name : List ℕ) (custom : Bool) → is_fixed_text kind ≡ false → next_number (name_by custom name) number ≡ (if custom then number else suc number)
number_shown number kind name true group = refl
number_shown number kind name false group = refl

number_of : (number : ℕ) (kind : PartType) (part : PartView) → is_fixed_text kind ≡ false → following_number number kind part ≡ (if has_custom_name part then number else suc number)
number_of number FixedText part group = absurd (false≢true (sym group))
number_of number Regexp part group = refl
number_of number SegmentWildcard part group = refl
number_of number FullWildcard part group = refl

compared_segment : (options : OptionsView) (custom : Bool) → placeholder_regexp options (if custom then matched.Segment else matched.Custom (segment_wildcard options)) ≡ segment_wildcard options
compared_segment options true = refl
compared_segment options false = refl

compared_full : (options : OptionsView) (asterisk : Bool) → placeholder_regexp options (if asterisk then matched.Anything else matched.Custom full_wildcard) ≡ full_wildcard
compared_full options true = refl
compared_full options false = refl

-- A placeholder spells a part of this kind.
pub record Shows (options : OptionsView) (number : ℕ) (kind : PartType) (part : PartView) (placeholder : Placeholder) : Type 0 where
  pub name : name_or placeholder.name number ≡ part.name
  pub number_after : next_number placeholder.name number ≡ following_number number kind part
  pub is_kind : kind_of options (placeholder_regexp options placeholder.matched) ≡ kind
  pub is_value : value_of kind (placeholder_regexp options placeholder.matched) ≡ part.value

shown_kind : (options : OptionsView) (kind : PartType) (part : PartView) (custom asterisk : Bool) → is_fixed_text kind ≡ false → FieldsFitKind options kind part → kind_of options (placeholder_regexp options (matched_by custom asterisk options kind part.value)) ≡ kind
shown_kind options FixedText part custom asterisk group h = absurd (false≢true (sym group))
shown_kind options Regexp part custom asterisk group h = kind_custom options part.value h.1 h.2
shown_kind options SegmentWildcard part custom asterisk group h = kind_segment options _ (compared_segment options custom)
shown_kind options FullWildcard part custom asterisk group h =
    ap (kind_of options) (compared_full options asterisk) ∙ kind_full options full_wildcard (full_other options.syntax options.delimiter) refl

shown_value : (options : OptionsView) (kind : PartType) (part : PartView) (custom asterisk : Bool) → is_fixed_text kind ≡ false → FieldsFitKind options kind part → value_of kind (placeholder_regexp options (matched_by custom asterisk options kind part.value)) ≡ part.value
shown_value options FixedText part custom asterisk group h = absurd (false≢true (sym group))
shown_value options Regexp part custom asterisk group h = refl
shown_value options SegmentWildcard part custom asterisk group h = sym h.0
shown_value options FullWildcard part custom asterisk group h = sym h

pub shows_part : (options : OptionsView) (number : ℕ) (kind : PartType) (part : PartView) (asterisk : Bool) → is_fixed_text kind ≡ false → FieldsFitKind options kind part → IsNamed number kind part.name →
    Shows options number kind part (placeholder_of options kind part asterisk)
shows_part options number kind part asterisk group fields named = record {
  name = name_shown number kind part.name (has_custom_name part) group named refl;
  number_after = number_shown number kind part.name (has_custom_name part) group ∙ sym (number_of number kind part group);
  is_kind = shown_kind options kind part (has_custom_name part) asterisk group fields;
  is_value = shown_value options kind part (has_custom_name part) asterisk group fields;
}

-- ---- the tokens of a placeholder

-- The text before the rest is the tokens of this placeholder.
pub record Placed (total : ℕ) (text rest : List ℕ) (placeholder : Placeholder) : Type 0 where
  pub tokens : List TokenView
  pub run : Run total rest text tokens
  pub is_placeholder : IsPlaceholderOf tokens placeholder.name placeholder.matched

placed_name : (total : ℕ) (name rest : List ℕ) → IsName name → ¬ BeginsWith is_name_part rest → Placed total (codes ":" ++ name ++ rest) rest (record { name = Some name; matched = matched.Segment })
placed_name total name rest is ends = record {
  tokens = token_at total (codes ":" ++ name ++ rest) tokens.Name name ∷ [];
  run = next (name_lexed name rest is ends) done;
  is_placeholder = (refl, refl);
}

-- An opening bracket ends a name.
bracket_no_part : ¬ IsTrue (is_name_part 40)
bracket_no_part = mark_ends (codes "(") refl

placed_both : (total : ℕ) (name body rest : List ℕ) → IsName name → IsRegexpBody body → Placed total (codes ":" ++ name ++ (captured body ++ rest)) rest (record { name = Some name; matched = matched.Custom body })
placed_both total name body rest is is_body = record {
  tokens = token_at total (codes ":" ++ name ++ (captured body ++ rest)) tokens.Name name ∷ token_at total (captured body ++ rest) tokens.Regexp body ∷ [];
  run = next (name_lexed name (captured body ++ rest) is bracket_no_part) (next (regexp_lexed body rest is_body) done);
  is_placeholder = (refl, refl);
}

placed_regexp : (total : ℕ) (body rest : List ℕ) → IsRegexpBody body → Placed total (captured body ++ rest) rest (record { name = None; matched = matched.Custom body })
placed_regexp total body rest is_body = record {
  tokens = token_at total (captured body ++ rest) tokens.Regexp body ∷ [];
  run = next (regexp_lexed body rest is_body) done;
  is_placeholder = (refl, refl);
}

placed_asterisk : (total : ℕ) (rest : List ℕ) → Placed total (codes "*" ++ rest) rest (record { name = None; matched = matched.Anything })
placed_asterisk total rest = record {
  tokens = token_at total (codes "*" ++ rest) tokens.Asterisk (codes "*") ∷ [];
  run = next (asterisk_lexed rest) done;
  is_placeholder = refl;
}

-- The text of a name and of a regular expression, by whether the pattern gives the name.
abbrev name_text : (custom : Bool) → List ℕ → List ℕ
name_text custom name = if custom then codes ":" ++ name else []

abbrev match_text : (custom asterisk : Bool) → OptionsView → PartType → (value : List ℕ) → List ℕ
match_text custom asterisk options FixedText value = []
match_text custom asterisk options Regexp value = captured value
match_text custom asterisk options SegmentWildcard value = if custom then [] else captured (segment_wildcard options)
match_text custom asterisk options FullWildcard value = if asterisk then codes "*" else captured full_wildcard

match_printed : (options : OptionsView) (kind : PartType) (part : PartView) (asterisk : Bool) → match_text (has_custom_name part) asterisk options kind part.value ≡ printed_match options kind part asterisk
match_printed options FixedText part asterisk = refl
match_printed options Regexp part asterisk = refl
match_printed options SegmentWildcard part asterisk = refl
match_printed options FullWildcard part asterisk = refl

placed_named : (options : OptionsView) (total : ℕ) (kind : PartType) (part : PartView) (rest : List ℕ) → is_fixed_text kind ≡ false → FieldsFitKind options kind part → IsName part.name → (IsTrue (is_segment kind) → ¬ BeginsWith is_name_part rest) →
    Placed total (codes ":" ++ part.name ++ (match_text true false options kind part.value ++ rest)) rest (record { name = Some part.name; matched = matched_by true false options kind part.value })
placed_named options total FixedText part rest group h is ends = absurd (false≢true (sym group))
placed_named options total Regexp part rest group h is ends = placed_both total part.name part.value rest is h.0
placed_named options total SegmentWildcard part rest group h is ends = placed_name total part.name rest is (ends refl)
placed_named options total FullWildcard part rest group h is ends = placed_both total part.name full_wildcard rest is full_body

placed_numbered : (options : OptionsView) (total : ℕ) (kind : PartType) (part : PartView) (asterisk : Bool) (rest : List ℕ) → is_fixed_text kind ≡ false → FieldsFitKind options kind part → ¬ IsTrue (has_custom_name part) →
    Placed total (match_text false asterisk options kind part.value ++ rest) rest (record { name = None; matched = matched_by false asterisk options kind part.value })
placed_numbered options total FixedText part asterisk rest group h numbered = absurd (false≢true (sym group))
placed_numbered options total Regexp part asterisk rest group h numbered = placed_regexp total part.value rest h.0
placed_numbered options total SegmentWildcard part asterisk rest group h numbered = placed_regexp total (segment_wildcard options) rest (h.1 numbered)
placed_numbered options total FullWildcard part true rest group h numbered = placed_asterisk total rest
placed_numbered options total FullWildcard part false rest group h numbered = placed_regexp total full_wildcard rest full_body

placed_by : (options : OptionsView) (total number : ℕ) (kind : PartType) (part : PartView) (custom asterisk : Bool) (rest : List ℕ) → has_custom_name part ≡ custom → (IsTrue custom → asterisk ≡ false) →
    is_fixed_text kind ≡ false → FieldsFitKind options kind part → IsNamed number kind part.name → (IsTrue (is_segment kind && custom) → ¬ BeginsWith is_name_part rest) →
    Placed total (name_text custom part.name ++ (match_text custom asterisk options kind part.value ++ rest)) rest (record { name = name_by custom part.name; matched = matched_by custom asterisk options kind part.value })
placed_by options total number kind part true true rest e none group h named ends = absurd (false≢true (sym (none refl)))
placed_by options total number kind part true false rest e none group h named ends =
    placed_named options total kind part rest group h (name_given number kind part.name group named e) (λ segment. ends (and_from _ _ segment refl))
placed_by options total number kind part false asterisk rest e none group h named ends = placed_numbered options total kind part asterisk rest group h (both_ways (has_custom_name part) e)

-- The tokens of a part's name and of its regular expression, where no asterisk follows a name and
-- the rest does not go on with a name alone.
pub placed_part : (options : OptionsView) (total number : ℕ) (kind : PartType) (part : PartView) (asterisk : Bool) (rest : List ℕ) → (IsTrue (has_custom_name part) → asterisk ≡ false) →
    is_fixed_text kind ≡ false → FieldsFitKind options kind part → IsNamed number kind part.name → (IsTrue (is_segment kind && has_custom_name part) → ¬ BeginsWith is_name_part rest) →
    Placed total (printed_name part ++ (printed_match options kind part asterisk ++ rest)) rest (placeholder_of options kind part asterisk)
placed_part options total number kind part asterisk rest none group h named ends =
    subst (λ t. Placed total (printed_name part ++ (t ++ rest)) rest (placeholder_of options kind part asterisk)) (match_printed options kind part asterisk)
    (placed_by options total number kind part (has_custom_name part) asterisk rest refl none group h named ends)

-- ---- the beginning of a placeholder, and the tokens after it

first_kind : (token : TokenView) (first : List TokenView) (kind : TokenType) (more : List TokenType) → kinds (token ∷ first) ≡ kind ∷ more → token.kind ≡ kind
first_kind token first kind more e = cc e

-- A placeholder with a name does not begin with a Regexp.
pub named_no_regexp : (first behind : List TokenView) (name : List ℕ) (what : PlaceholderKindView) → IsPlaceholderOf first (Some name) what → ¬ BeginsWithKind is_regexp (first ++ behind)
named_no_regexp [] behind name matched.Segment is b = cc (is.0)
named_no_regexp [] behind name (matched.Custom body) is b = cc (is.0)
named_no_regexp [] behind name matched.Anything is b = is
named_no_regexp (token ∷ first) behind name matched.Segment is b = no (subst (λ k. IsTrue (is_regexp k)) (first_kind token first tokens.Name [] is.0) b)
named_no_regexp (token ∷ first) behind name (matched.Custom body) is b = no (subst (λ k. IsTrue (is_regexp k)) (first_kind token first tokens.Name (tokens.Regexp ∷ []) is.0) b)
named_no_regexp (token ∷ first) behind name matched.Anything is b = is

-- A placeholder that is not an asterisk begins with no modifier.
pub placed_no_modifier : (first behind : List TokenView) (name : Option (List ℕ)) (what : PlaceholderKindView) → IsPlaceholderOf first name what → what ≢ matched.Anything → ¬ BeginsWithKind is_modifier (first ++ behind)
placed_no_modifier first behind name matched.Anything is other b = other refl
placed_no_modifier first behind None matched.Segment is other b = is
placed_no_modifier [] behind None (matched.Custom body) is other b = cc (is.0)
placed_no_modifier [] behind (Some name) matched.Segment is other b = cc (is.0)
placed_no_modifier [] behind (Some name) (matched.Custom body) is other b = cc (is.0)
placed_no_modifier (token ∷ first) behind None (matched.Custom body) is other b = no (subst (λ k. IsTrue (is_modifier k)) (first_kind token first tokens.Regexp [] is.0) b)
placed_no_modifier (token ∷ first) behind (Some name) matched.Segment is other b = no (subst (λ k. IsTrue (is_modifier k)) (first_kind token first tokens.Name [] is.0) b)
placed_no_modifier (token ∷ first) behind (Some name) (matched.Custom body) is other b = no (subst (λ k. IsTrue (is_modifier k)) (first_kind token first tokens.Name (tokens.Regexp ∷ []) is.0) b)

takes_by : (options : OptionsView) (kind : PartType) (value : List ℕ) (custom asterisk : Bool) (behind : List TokenView) → is_fixed_text kind ≡ false → (IsTrue (is_segment kind && custom) → ¬ BeginsWithKind is_regexp behind) →
    TakesRegexp (matched_by custom asterisk options kind value) behind
takes_by options FixedText value custom asterisk behind group free = absurd (false≢true (sym group))
takes_by options Regexp value custom asterisk behind group free = tt
takes_by options SegmentWildcard value true asterisk behind group free = free refl
takes_by options SegmentWildcard value false asterisk behind group free = tt
takes_by options FullWildcard value custom true behind group free = tt
takes_by options FullWildcard value custom false behind group free = tt

-- A name alone takes a Regexp, and no other placeholder does.
pub takes_regexp : (options : OptionsView) (kind : PartType) (part : PartView) (asterisk : Bool) (behind : List TokenView) → is_fixed_text kind ≡ false → (IsTrue (is_segment kind && has_custom_name part) → ¬ BeginsWithKind is_regexp behind) →
    TakesRegexp (placeholder_of options kind part asterisk).matched behind
takes_regexp options kind part asterisk behind group free = takes_by options kind part.value (has_custom_name part) asterisk behind group free

-- A placeholder without an asterisk is not `Anything`.
pub not_anything : (options : OptionsView) (kind : PartType) (part : PartView) (asterisk : Bool) → asterisk ≡ false → (placeholder_of options kind part asterisk).matched ≢ matched.Anything
not_anything options kind part true h = absurd (false≢true (sym h))
not_anything options kind part false h = by_kind kind (has_custom_name part)
  where
    by_kind : (k : PartType) (custom : Bool) → matched_by custom false options k part.value ≢ matched.Anything
    by_kind FixedText custom e = cc e
    by_kind Regexp custom e = cc e
    by_kind SegmentWildcard true e = cc e
    by_kind SegmentWildcard false e = cc e
    by_kind FullWildcard custom e = cc e
