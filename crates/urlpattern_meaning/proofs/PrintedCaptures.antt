-- A group as it is printed, before parts that are read back.
use Rattle.std.proofs.Common.{◌≡◌, ◌≢◌, ℕ, Bool, true, false, List, [], ◌∷◌, ◌++◌, Option, Some, refl, sym, ap, ◌∙◌, subst, append_assoc}
use Rattle.std.specs.Prelude.{IsTrue, not, ◌||◌, if◌then◌else◌}
use Rattle.std.proofs.lemmas.Bool.{and_from, false≢true, not-false, or_parts, or_right}
use Rattle.std.proofs.lemmas.Slice.Eq.{bytes_eq-Decides}
use Rattle.urlpattern_syntax.specs.declared.parser.PartType.{PartType}
use Rattle.urlpattern_syntax.specs.declared.parser.PartType.TheVariants.{FixedText, FullWildcard, Regexp, SegmentWildcard}
use Rattle.urlpattern_syntax.specs.declared.tokenizer.TokenType.{TokenType}
use Rattle.urlpattern_syntax.specs.Options.{OptionsView}
use Rattle.urlpattern_syntax.specs.Parts.{PartView}
use Rattle.urlpattern_syntax.specs.Pieces.{BeginsWithKind, PlaceholderKindView, is_modifier, is_placeholder, is_regexp, Ending as endings}
use Rattle.urlpattern_syntax.specs.Reading.{Capture, placeholder_regexp, items_from, joined_items, kind_of, number_after, value_of}
use Rattle.urlpattern_syntax.specs.RegexpText.{is_empty, is_fixed_text, is_unmodified}
use Rattle.urlpattern_syntax.specs.Text.{BeginsWith, begins_with, byte_len, is_name_part}
use Rattle.urlpattern_syntax.specs.Tokens.{TokenView, end_of}
use Rattle.urlpattern_meaning.specs.Printing.{is_wildcard_after, first_part, continues_name, has_custom_name, has_other_prefix, has_suffix, last_of, needs_braces, printed_after, printed_fixed, printed_group, printed_part, absorbs_before, absorbs_next}
use Rattle.urlpattern_meaning.specs.RoundTrip.{IsPrefixPoint, following_number}
use Rattle.urlpattern_meaning.proofs.PrintedAfter.{Behind, ReadsBack, are_more, after_any, goes_by, goes_not}
use Rattle.urlpattern_meaning.proofs.PrintedGroups.{GroupPiece, IsGroup, group_bare, group_braced}
use Rattle.urlpattern_meaning.proofs.PrintedTokens.{Run, run_joined}
use Rattle.urlpattern_meaning.proofs.RoundTripWords.{IsItemOf}

-- A group is the item of its part.
capture_item : (options : OptionsView) (kind : PartType) (part : PartView) (match : PlaceholderKindView) → is_fixed_text kind ≡ false → kind_of options (placeholder_regexp options match) ≡ part.kind → value_of part.kind (placeholder_regexp options match) ≡ part.value →
    IsItemOf options kind part (Capture part.prefix part.name match part.suffix part.modifier)
capture_item options FixedText part match group k v = absurd (false≢true (sym group))
capture_item options Regexp part match group k v = (match, refl, k, v)
capture_item options SegmentWildcard part match group k v = (match, refl, k, v)
capture_item options FullWildcard part match group k v = (match, refl, k, v)

-- A group is printed with braces or without.
group_printed : (options : OptionsView) (before : Option PartView) (part : PartView) (next : Option PartView) (braces : Bool) → is_fixed_text part.kind ≡ false → needs_braces options before part next ≡ braces →
    printed_part options before part next ≡ printed_group options before part braces
unfolding printed_part
group_printed options before part next braces group e =
    ap (λ b. if b then printed_fixed part else printed_group options before part (needs_braces options before part next)) group
    ∙ ap (printed_group options before part) e

empty_text : (text : List ℕ) → not (is_empty text) ≡ false → text ≡ []
empty_text [] h = refl
empty_text (c ∷ text) h = absurd (false≢true (sym h))

filled_text : (text : List ℕ) → text ≢ [] → not (is_empty text) ≡ true
filled_text [] h = absurd (h refl)
filled_text (c ∷ text) h = refl

-- ---- beginnings of groups

-- After a group without modifier no asterisk is printed.
admits_none : (before : PartView) → is_fixed_text before.kind ≡ false → IsTrue (is_unmodified before.modifier) → is_wildcard_after (Some before) ≡ false
admits_none before group plain = ap (λ b. b || not (is_unmodified before.modifier)) group ∙ ap not plain

-- A fixed text that ends with the prefix code point would lose it to a group without braces and
-- prefix.
before_taken : (options : OptionsView) (before part : PartView) → part.prefix ≡ [] → IsTrue (is_fixed_text before.kind) → before.value ≢ [] → last_of before.value ≡ options.prefix → absorbs_before options (Some before) part ≡ true
before_taken options before part e fixed filled f =
    and_from _ _ (and_from _ _ (and_from _ _ (ap is_empty e) fixed) (filled_text before.value filled)) ((bytes_eq-Decides (last_of before.value) options.prefix).1 f)

-- A group that does not go on with a name alone, without prefix and suffix, has a name that the
-- pattern gives.
own_name : (part : PartView) → is_fixed_text part.kind ≡ false → part.prefix ≡ [] → part.suffix ≡ [] → continues_name part ≡ false → IsTrue (has_custom_name part)
own_name part group e f h =
    not-false (has_custom_name part)
    (sym (goes_by part.prefix part.suffix _ e f ∙ ap (λ b. if b then begins_with is_name_part part.value else not (has_custom_name part)) group) ∙ h)

-- ---- before parts that are read back

-- A group that needs no braces.
record NeedsNone (options : OptionsView) (before : Option PartView) (part : PartView) (next : Option PartView) : Type 0 where
  pub no_suffix : part.suffix ≡ []
  pub no_other_prefix : has_other_prefix options part ≡ false
  pub takes_none : absorbs_next part next ≡ false

needs_none : (options : OptionsView) (before : Option PartView) (part : PartView) (next : Option PartView) → needs_braces options before part next ≡ false → NeedsNone options before part next
needs_none options before part next h =
    let three = (or_parts (has_suffix part || has_other_prefix options part || absorbs_next part next) (absorbs_before options before part) h).0 in
    let two = or_parts (has_suffix part || has_other_prefix options part) (absorbs_next part next) three in
    let one = or_parts (has_suffix part) (has_other_prefix options part) two.0 in
    record { no_suffix = empty_text part.suffix one.0; no_other_prefix = one.1; takes_none = two.1 }

module _ (options : OptionsView) (whole : List ℕ) (before : Option PartView) (number : ℕ) (part : PartView) (parts : List PartView) (is : IsGroup options number part) (more : ReadsBack options whole (Some part) (following_number number part.kind part) parts) where
  abbrev rest : List ℕ
  rest = printed_after options (Some part) parts

  abbrev last : List TokenView
  last = more.tokens ++ end_of whole ∷ []

  piece_by : (braces : Bool) → IsPrefixPoint options.prefix → needs_braces options before part (first_part parts) ≡ braces → GroupPiece options (byte_len whole) number before part braces rest last
  piece_by true point e = group_braced options (byte_len whole) number before part rest last is (more.behind.no_modifier is.group)
  piece_by false point e =
      let none = needs_none options before part (first_part parts) e in
      group_bare options (byte_len whole) number before part rest last point is none.no_suffix none.no_other_prefix (record {
        no_modifier = more.behind.no_modifier is.group;
        no_regexp = λ alone plain. more.behind.no_regexp alone plain none.takes_none;
        no_name_part = λ alone plain. more.behind.no_name_part alone plain none.takes_none;
      })

  after_by : (braces : Bool) → needs_braces options before part (first_part parts) ≡ braces → (piece : GroupPiece options (byte_len whole) number before part braces rest last) → (earlier : PartView) → before ≡ Some earlier →
      Behind options earlier (Some part) (printed_part options before part (first_part parts) ++ rest) ((piece.tokens ++ more.tokens) ++ end_of whole ∷ [])
  after_by braces e piece earlier f = record {
    no_modifier = λ group plain. by_tokens is_modifier (piece.no_modifier (ap is_wildcard_after f ∙ admits_none earlier group plain));
    no_placeholder = λ fixed filled g. by_tokens is_placeholder (piece.no_placeholder (λ prefix. sym e ∙ or_right _ _ (ap (λ b. absorbs_before options b part) f ∙ before_taken options earlier part prefix fixed filled g)));
    no_regexp = λ alone plain free. by_tokens is_regexp (piece.no_regexp (own (goes_not earlier part alone plain free)));
    no_name_part = λ alone plain free. subst (λ t. ¬ BeginsWith is_name_part (t ++ rest)) (sym (group_printed options before part (first_part parts) braces is.group e))
        (piece.no_name_part (own (goes_not earlier part alone plain free)));
  }
    where
      by_tokens : (test : TokenType → Bool) → ¬ BeginsWithKind test (piece.tokens ++ last) → ¬ BeginsWithKind test ((piece.tokens ++ more.tokens) ++ end_of whole ∷ [])
      by_tokens test h = subst (λ ts. ¬ BeginsWithKind test ts) (sym (append_assoc piece.tokens more.tokens (end_of whole ∷ []))) h

      own : continues_name part ≡ false → part.prefix ≡ [] → braces ≡ false → IsTrue (has_custom_name part)
      own goes prefix none = own_name part is.group prefix (needs_none options before part (first_part parts) (e ∙ none)).no_suffix goes

  step_by : (braces : Bool) → needs_braces options before part (first_part parts) ≡ braces → GroupPiece options (byte_len whole) number before part braces rest last → ReadsBack options whole before number (part ∷ parts)
  step_by braces e piece = record {
    tokens = piece.tokens ++ more.tokens;
    pieces = piece.piece ∷ more.pieces;
    run = subst (λ t. Run (byte_len whole) [] (t ++ rest) (piece.tokens ++ more.tokens)) (sym (group_printed options before part (first_part parts) braces is.group e)) (run_joined piece.run more.run);
    are_pieces = are_more options.prefix piece.tokens more.tokens (end_of whole ∷ []) piece.piece more.pieces (endings.Stops (end_of whole)) piece.is_piece more.are_pieces;
    are_items = (
      Capture part.prefix part.name piece.placeholder.matched part.suffix part.modifier,
      joined_items (items_from (following_number number part.kind part) more.pieces),
      ap (λ x. joined_items (x ∷ items_from (number_after number piece.piece) more.pieces)) piece.is_item
          ∙ ap (λ n. Capture part.prefix part.name piece.placeholder.matched part.suffix part.modifier ∷ joined_items (items_from n more.pieces)) piece.is_number,
      capture_item options part.kind part piece.placeholder.matched is.group piece.shows.is_kind piece.shows.is_value,
      more.are_items,
    );
    behind = after_any options before (Some part) _ _ (after_by braces e piece);
  }

  pub step_group : IsPrefixPoint options.prefix → ReadsBack options whole before number (part ∷ parts)
  step_group point =
      let braces = needs_braces options before part (first_part parts) in
      step_by braces refl (piece_by braces point refl)
