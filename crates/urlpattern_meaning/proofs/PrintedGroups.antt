-- A group as it is printed, with braces or without: its tokens, its piece, and its item.
use Rattle.std.proofs.Common.{◌≡◌, ◌≢◌, ℕ, Bool, true, false, List, [], ◌∷◌, ◌++◌, Option, refl, sym, ap, ◌∙◌, subst, inl, inr, append_assoc}
use Rattle.std.specs.Prelude.{IsTrue, bytes_eq, codes, not, ◌&&◌, ◌||◌, if◌then◌else◌}
use Rattle.std.proofs.lemmas.Bool.{and_parts, false≢true, false_from_ne_true, not-false}
use Rattle.std.proofs.lemmas.Slice.Eq.{bytes_eq-Decides}
use Rattle.urlpattern_syntax.proofs.TokenExamples.{no}
use Rattle.urlpattern_syntax.specs.declared.tokenizer.TokenType.{TokenType}
use Rattle.urlpattern_syntax.specs.declared.tokenizer.TokenType.TheVariants.{Char}
use Rattle.urlpattern_syntax.specs.Options.{OptionsView}
use Rattle.urlpattern_syntax.specs.Parts.{PartView}
use Rattle.urlpattern_syntax.specs.Pieces.{BeginsWithKind, IsBraced, IsPiece, IsPlaceholderOf, IsPrefixOf, Piece, Placeholder, is_modifier, is_placeholder, is_regexp, is_text, Piece as pieces}
use Rattle.urlpattern_syntax.specs.Reading.{Capture, item, number_after}
use Rattle.urlpattern_syntax.specs.RegexpText.{escaped, is_empty, is_fixed_text, is_unmodified, modifier_text}
use Rattle.urlpattern_syntax.specs.Text.{BeginsWith, begins_with, is_among, is_name_part}
use Rattle.urlpattern_syntax.specs.Tokens.{TokenView}
use Rattle.urlpattern_meaning.specs.Printing.{escaped_pattern, has_custom_name, has_other_prefix, is_asterisk, is_name_alone, is_wildcard_after, pattern_marks, printed_group, printed_match, printed_name, printed_suffix}
use Rattle.urlpattern_meaning.specs.RoundTrip.{FieldsFitKind, IsNamed, IsPrefixPoint, IsUnskipped, following_number}
use Rattle.urlpattern_meaning.proofs.PrintedBraces.{SuffixTokens, braced_run, braced_tokens, closing_text, is_braced, modifier_ends, modifier_is, modifier_regexp, modifier_run, modifier_takes, modifier_tokens, suffix_ends, suffix_text, suffix_tokens, text_ends, texts_no_regexp}
use Rattle.urlpattern_meaning.proofs.PrintedPlaceholders.{Placed, Shows, name_by, named_no_regexp, not_anything, placed_no_modifier, placed_part, placeholder_of, shows_part, takes_regexp}
use Rattle.urlpattern_meaning.proofs.PrintedMeanings.{kind_by, text_are, text_first, text_no_modifier, text_no_placeholder, text_no_regexp, text_run, text_tokens}
use Rattle.urlpattern_meaning.proofs.PrintedTokens.{Run, mark_ends, run_joined}

-- The properties of a group, where `number` groups before it have no name.
pub record IsGroup (options : OptionsView) (number : ℕ) (part : PartView) : Type 0 where
  pub group : is_fixed_text part.kind ≡ false
  pub fields : FieldsFitKind options part.kind part
  pub named : IsNamed number part.kind part.name
  pub prefix : IsUnskipped part.prefix
  pub suffix : IsUnskipped part.suffix

-- The text of a group before the rest, and its beginning.
pub record GroupPiece (options : OptionsView) (total number : ℕ) (before : Option PartView) (part : PartView) (braces : Bool) (rest : List ℕ) (behind : List TokenView) : Type 0 where
  pub tokens : List TokenView
  pub piece : Piece
  pub placeholder : Placeholder
  pub run : Run total rest (printed_group options before part braces ++ rest) tokens
  pub is_piece : IsPiece options.prefix tokens piece behind
  pub shows : Shows options number part.kind part placeholder
  pub is_item : item number piece ≡ Capture part.prefix part.name placeholder.matched part.suffix part.modifier
  pub is_number : number_after number piece ≡ following_number number part.kind part
  pub no_modifier : is_wildcard_after before ≡ false → ¬ BeginsWithKind is_modifier (tokens ++ behind)
  pub no_placeholder : (part.prefix ≡ [] → braces ≡ true) → ¬ BeginsWithKind is_placeholder (tokens ++ behind)
  pub no_regexp : (part.prefix ≡ [] → braces ≡ false → IsTrue (has_custom_name part)) → ¬ BeginsWithKind is_regexp (tokens ++ behind)
  pub no_name_part : (part.prefix ≡ [] → braces ≡ false → IsTrue (has_custom_name part)) → ¬ BeginsWith is_name_part (printed_group options before part braces ++ rest)

-- No asterisk follows a name.
unnamed_asterisk : (custom other : Bool) → IsTrue custom → (not custom && other) ≡ false
unnamed_asterisk true other h = refl
unnamed_asterisk false other h = absurd (no h)

-- ---- with braces

four_texts : (a b c d rest : List ℕ) → a ++ (b ++ (c ++ (d ++ rest))) ≡ (a ++ b ++ c ++ d) ++ rest
four_texts a b c d rest = simp append_assoc

pub group_braced : (options : OptionsView) (total number : ℕ) (before : Option PartView) (part : PartView) (rest : List ℕ) (behind : List TokenView) → IsGroup options number part →
    (IsTrue (is_unmodified part.modifier) → ¬ BeginsWithKind is_modifier behind) → GroupPiece options total number before part true rest behind
group_braced options total number before part rest behind is free = record {
  tokens = braced_tokens total text inner part.modifier rest;
  piece = pieces.Group part.prefix placeholder part.suffix part.modifier;
  placeholder = placeholder;
  run = braced_run total text inner part.modifier rest inner_run;
  is_piece = (
    inner,
    braced,
    record {
      front = front;
      middle = placed.tokens;
      back = suffix.tokens;
      cut = refl;
      are_texts_before = text_are total part.prefix _;
      is_placeholder = placed.is_placeholder;
      takes_regexp = takes_regexp options part.kind part asterisk (suffix.tokens ++ braced.closing ∷ []) is.group
          (λ _. texts_no_regexp suffix.tokens part.suffix braced.closing suffix.are_texts (λ h. no (subst (λ kind. IsTrue (is_regexp kind)) braced.is_close h)));
      are_texts_after = suffix.are_texts;
    },
  );
  shows = shows;
  is_item = ap (λ name. Capture part.prefix name placeholder.matched part.suffix part.modifier) shows.name;
  is_number = shows.number_after;
  no_modifier = λ _. no;
  no_placeholder = λ _. no;
  no_regexp = λ _. no;
  no_name_part = λ _. mark_ends (codes "{") refl;
}
  where
    asterisk : Bool
    asterisk = is_asterisk before part true

    kept : Bool
    kept = is_name_alone part && begins_with is_name_part part.suffix

    text : List ℕ
    text = escaped_pattern part.prefix ++ printed_name part ++ printed_match options part.kind part asterisk ++ printed_suffix part

    closing : List ℕ
    closing = closing_text part.modifier rest

    placeholder : Placeholder
    placeholder = placeholder_of options part.kind part asterisk

    shows : Shows options number part.kind part placeholder
    shows = shows_part options number part.kind part asterisk is.group is.fields is.named

    suffix : SuffixTokens total (suffix_text kept part.suffix) part.suffix closing
    suffix = suffix_tokens total kept part.suffix closing (λ h. (and_parts (is_name_alone part) (begins_with is_name_part part.suffix) h).1) is.suffix

    placed : Placed total (printed_name part ++ (printed_match options part.kind part asterisk ++ (printed_suffix part ++ closing))) (printed_suffix part ++ closing) placeholder
    placed =
        placed_part options total number part.kind part asterisk (printed_suffix part ++ closing) (unnamed_asterisk (has_custom_name part) _) is.group is.fields is.named
        (λ alone. suffix_ends kept part.suffix closing (sym (ap (λ a. a && begins_with is_name_part part.suffix) alone)) (mark_ends (codes "}") refl))

    front : List TokenView
    front = text_tokens total part.prefix (printed_name part ++ (printed_match options part.kind part asterisk ++ (printed_suffix part ++ closing)))

    inner : List TokenView
    inner = front ++ placed.tokens ++ suffix.tokens

    inner_run : Run total closing (text ++ closing) inner
    inner_run =
        subst (λ t. Run total closing t inner) (four_texts (escaped_pattern part.prefix) (printed_name part) (printed_match options part.kind part asterisk) (printed_suffix part) closing)
        (run_joined (run_joined (text_run total part.prefix _ is.prefix) placed.run) suffix.run)

    braced : IsBraced (braced_tokens total text inner part.modifier rest) inner part.modifier behind
    braced = is_braced total text inner part.modifier rest behind free

-- ---- without braces

-- The prefix code point is a Char.
point_kind : (c : ℕ) (mark : Bool) → is_among pattern_marks c ≡ mark → ¬ IsTrue (is_among pattern_marks c) → kind_by mark ≡ Char
point_kind c true e h = absurd (h e)
point_kind c false e h = refl

-- A prefix that needs no braces is empty, or the prefix code point.
prefix_point : (point prefix : List ℕ) → (not (is_empty prefix) && not (bytes_eq prefix point)) ≡ false → prefix ≢ [] → prefix ≡ point
prefix_point point [] h filled = absurd (filled refl)
prefix_point point (c ∷ prefix) h filled = (bytes_eq-Decides (c ∷ prefix) point).0 (not-false (bytes_eq (c ∷ prefix) point) h)

bare_prefix : (point : List ℕ) (total : ℕ) (prefix rest : List ℕ) → (prefix ≢ [] → prefix ≡ point) → (prefix ≢ [] → IsPrefixPoint prefix) → IsPrefixOf point (text_tokens total prefix rest) prefix
bare_prefix point total [] rest e is = inl (refl, refl)
bare_prefix point total (c ∷ []) rest e is =
    inr (ap (λ kind. kind ∷ []) (point_kind c (is_among pattern_marks c) refl (is (λ f. cc f)).0), refl, e (λ f. cc f))
bare_prefix point total (c ∷ d ∷ prefix) rest e is = absurd (is (λ f. cc f))

-- The prefix code point ends a name.
point_ends : (prefix rest : List ℕ) → (prefix ≢ [] → IsPrefixPoint prefix) → (prefix ≡ [] → ¬ BeginsWith is_name_part rest) → ¬ BeginsWith is_name_part (escaped_pattern prefix ++ rest)
point_ends [] rest is free = text_ends [] rest refl free
point_ends (c ∷ []) rest is free = text_ends (c ∷ []) rest (false_from_ne_true (is_name_part c) (is (λ f. cc f)).1) (λ f. absurd (cc f))
point_ends (c ∷ d ∷ prefix) rest is free = absurd (is (λ f. cc f))

-- An empty suffix is printed as nothing.
no_suffix : (alone : Bool) → suffix_text (alone && false) [] ≡ []
unfolding escaped
no_suffix true = refl
no_suffix false = refl

suffix_nothing : (alone : Bool) (suffix : List ℕ) → suffix ≡ [] → suffix_text (alone && begins_with is_name_part suffix) suffix ≡ []
suffix_nothing alone [] e = no_suffix alone
suffix_nothing alone (c ∷ suffix) e = absurd (cc e)

bare_text : (a b c d m rest : List ℕ) → d ≡ [] → a ++ (b ++ (c ++ (m ++ rest))) ≡ (a ++ b ++ c ++ d) ++ m ++ rest
bare_text a b c [] m rest e = simp append_assoc
bare_text a b c (x ∷ d) m rest e = absurd (cc e)

-- The text of a group with a name that the pattern gives begins with a colon.
colon_ends : (custom : Bool) (name rest : List ℕ) → IsTrue custom → ¬ BeginsWith is_name_part ((if custom then codes ":" ++ name else []) ++ rest)
colon_ends true name rest h = mark_ends (codes ":") refl
colon_ends false name rest h = absurd (no h)

three_lists : (a b c d : List TokenView) → (a ++ b ++ c) ++ d ≡ a ++ (b ++ (c ++ d))
three_lists a b c d = simp append_assoc

-- An asterisk without braces and without a prefix follows a part that admits one.
no_asterisk : (custom admits : Bool) (prefix : List ℕ) → prefix ≡ [] → admits ≡ false → (not custom && (admits || false || not (is_empty prefix))) ≡ false
no_asterisk true admits prefix e f = refl
no_asterisk false true prefix e f = absurd (false≢true (sym f))
no_asterisk false false [] e f = refl
no_asterisk false false (c ∷ prefix) e f = absurd (cc e)

-- The text after a group without braces takes nothing from the group.
pub record LeavesGroup (part : PartView) (rest : List ℕ) (behind : List TokenView) : Type 0 where
  pub no_modifier : IsTrue (is_unmodified part.modifier) → ¬ BeginsWithKind is_modifier behind
  pub no_regexp : IsTrue (is_name_alone part) → IsTrue (is_unmodified part.modifier) → ¬ BeginsWithKind is_regexp behind
  pub no_name_part : IsTrue (is_name_alone part) → IsTrue (is_unmodified part.modifier) → ¬ BeginsWith is_name_part rest

pub group_bare : (options : OptionsView) (total number : ℕ) (before : Option PartView) (part : PartView) (rest : List ℕ) (behind : List TokenView) → IsPrefixPoint options.prefix → IsGroup options number part →
    part.suffix ≡ [] → has_other_prefix options part ≡ false → LeavesGroup part rest behind → GroupPiece options total number before part false rest behind
group_bare options total number before part rest behind is_point is ends other leaves = record {
  tokens = front ++ placed.tokens ++ back;
  piece = pieces.Bare part.prefix placeholder part.modifier;
  placeholder = placeholder;
  run = subst (λ t. Run total rest t (front ++ placed.tokens ++ back)) same
      (run_joined (run_joined (text_run total part.prefix (name ++ (match ++ more)) is.prefix) placed.run) (modifier_run total part.modifier rest));
  is_piece = record {
    front = front;
    middle = placed.tokens;
    back = back;
    cut = refl;
    is_prefix = bare_prefix options.prefix total part.prefix (name ++ (match ++ more)) point prefix_is_point;
    is_placeholder = placed.is_placeholder;
    is_modifier = modifier_is total part.modifier rest;
    takes_regexp = takes_regexp options part.kind part asterisk (back ++ behind) is.group (λ alone. modifier_regexp total part.modifier rest behind (leaves.no_regexp alone));
    takes_modifier = modifier_takes part.modifier behind leaves.no_modifier;
  };
  shows = shows;
  is_item = ap (λ n. Capture part.prefix n placeholder.matched [] part.modifier) shows.name
      ∙ ap (λ s. Capture part.prefix part.name placeholder.matched s part.modifier) (sym ends);
  is_number = shows.number_after;
  no_modifier = λ none. first is_modifier text_no_modifier
      (λ e. placed_no_modifier placed.tokens (back ++ behind) placeholder.name placeholder.matched placed.is_placeholder
      (not_anything options part.kind part asterisk (no_asterisk (has_custom_name part) (is_wildcard_after before) part.prefix e none)));
  no_placeholder = λ braces. first is_placeholder text_no_placeholder (λ e. absurd (false≢true (braces e)));
  no_regexp = λ custom. first is_regexp text_no_regexp
      (λ e. named_no_regexp placed.tokens (back ++ behind) part.name placeholder.matched
      (subst (λ b. IsPlaceholderOf placed.tokens (name_by b part.name) placeholder.matched) (custom e refl) placed.is_placeholder));
  no_name_part = λ custom. subst (λ t. ¬ BeginsWith is_name_part t) same
      (point_ends part.prefix (name ++ (match ++ more)) prefix_is_point (λ e. colon_ends (has_custom_name part) part.name (match ++ more) (custom e refl)));
}
  where
    asterisk : Bool
    asterisk = is_asterisk before part false

    name : List ℕ
    name = printed_name part

    match : List ℕ
    match = printed_match options part.kind part asterisk

    more : List ℕ
    more = modifier_text part.modifier ++ rest

    placeholder : Placeholder
    placeholder = placeholder_of options part.kind part asterisk

    shows : Shows options number part.kind part placeholder
    shows = shows_part options number part.kind part asterisk is.group is.fields is.named

    point : part.prefix ≢ [] → part.prefix ≡ options.prefix
    point = prefix_point options.prefix part.prefix other

    prefix_is_point : part.prefix ≢ [] → IsPrefixPoint part.prefix
    prefix_is_point filled = subst IsPrefixPoint (sym (point filled)) is_point

    same : escaped_pattern part.prefix ++ (name ++ (match ++ more)) ≡ printed_group options before part false ++ rest
    same = bare_text (escaped_pattern part.prefix) name match (printed_suffix part) (modifier_text part.modifier) rest (suffix_nothing (is_name_alone part) part.suffix ends)

    placed : Placed total (name ++ (match ++ more)) more placeholder
    placed =
        placed_part options total number part.kind part asterisk more (unnamed_asterisk (has_custom_name part) (is_wildcard_after before || false || not (is_empty part.prefix))) is.group is.fields is.named
        (λ alone. modifier_ends part.modifier rest (leaves.no_name_part alone))

    front : List TokenView
    front = text_tokens total part.prefix (name ++ (match ++ more))

    back : List TokenView
    back = modifier_tokens total part.modifier rest

    first : (test : TokenType → Bool) → ((kind : TokenType) → IsTrue (is_text kind) → ¬ IsTrue (test kind)) → (part.prefix ≡ [] → ¬ BeginsWithKind test (placed.tokens ++ (back ++ behind))) →
        ¬ BeginsWithKind test ((front ++ placed.tokens ++ back) ++ behind)
    first test others free = subst (λ ts. ¬ BeginsWithKind test ts) (sym (three_lists front placed.tokens back behind)) (text_first test total part.prefix (name ++ (match ++ more)) (placed.tokens ++ (back ++ behind)) others free)
