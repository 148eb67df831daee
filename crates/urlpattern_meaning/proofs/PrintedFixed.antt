-- A fixed text as it is printed, plain or with a modifier, before parts that are read back.
use Rattle.std.proofs.Common.{◌≡◌, ◌≢◌, ℕ, Bool, true, false, List, [], ◌∷◌, ◌++◌, Option, Some, refl, sym, ap, ◌∙◌, subst, append_assoc}
use Rattle.std.specs.Prelude.{IsTrue, codes, not, ◌&&◌, if◌then◌else◌}
use Rattle.std.proofs.lemmas.Bool.{both_ways, false≢true}
use Rattle.urlpattern_syntax.proofs.TokenExamples.{no}
use Rattle.urlpattern_syntax.specs.declared.parser.PartModifier.{PartModifier}
use Rattle.urlpattern_syntax.specs.declared.parser.PartModifier.TheVariants as modifiers
use Rattle.urlpattern_syntax.specs.declared.parser.PartType.{PartType}
use Rattle.urlpattern_syntax.specs.declared.parser.PartType.TheVariants.{FixedText, FullWildcard, Regexp, SegmentWildcard}
use Rattle.urlpattern_syntax.specs.declared.tokenizer.TokenType.{TokenType}
use Rattle.urlpattern_syntax.specs.Options.{OptionsView}
use Rattle.urlpattern_syntax.specs.Parts.{PartView}
use Rattle.urlpattern_syntax.specs.Pieces.{BeginsWithKind, is_modifier, is_placeholder, is_regexp, is_text, Ending as endings, Piece as pieces, ArePieces, Piece}
use Rattle.urlpattern_syntax.specs.Reading.{Fixed, Item, items_from, joined_items, with_text}
use Rattle.urlpattern_syntax.specs.RegexpText.{is_fixed_text, is_plain, is_unmodified, modifier_text}
use Rattle.urlpattern_syntax.specs.Text.{BeginsWith, begins_with, byte_len, is_name_part}
use Rattle.urlpattern_syntax.specs.Tokens.{TokenView, end_of}
use Rattle.urlpattern_meaning.specs.Printing.{escaped_pattern, first_part, continues_name, has_custom_name, in_braces, needs_braces, printed_after, printed_fixed, printed_group, printed_part}
use Rattle.urlpattern_meaning.specs.RoundTrip.{IsUnskipped}
use Rattle.urlpattern_meaning.proofs.PrintedAfter.{Behind, ReadsBack, are_more, after_any, goes_by, goes_not}
use Rattle.urlpattern_meaning.proofs.PrintedBraces.{braced_run, braced_tokens, closing_text, is_braced, text_ends}
use Rattle.urlpattern_meaning.proofs.PrintedMeanings.{are_text_pieces, text_are, text_first, text_items, text_no_modifier, text_no_placeholder, text_no_regexp, text_pieces, text_run, text_tokens}
use Rattle.urlpattern_meaning.proofs.PrintedTokens.{Run, mark_ends, run_joined}
use Rattle.urlpattern_meaning.proofs.PrintingLaws.{plain_fixed, plain_modifier, plain_printed}
use Rattle.urlpattern_meaning.proofs.RoundTripWords.{AreApart, AreItemsOf, IsItemOf}

-- ---- items

-- A fixed text is the item of its part.
fixed_item : (options : OptionsView) (kind : PartType) (part : PartView) → kind ≡ FixedText → IsItemOf options kind part (Fixed part.value part.modifier)
fixed_item options FixedText part e = refl
fixed_item options kind part e = absurd (cc e)

-- A text before the item of a part that is no plain fixed text.
text_before : (options : OptionsView) (kind : PartType) (part : PartView) (c : ℕ) (text : List ℕ) (first : Item) (items : List Item) → (is_fixed_text kind && is_unmodified part.modifier) ≡ false → IsItemOf options kind part first →
    with_text (c ∷ text) (first ∷ items) ≡ Fixed (c ∷ text) modifiers.None ∷ first ∷ items
text_before options FixedText part c text first items plain is =
    ap (λ x. with_text (c ∷ text) (x ∷ items)) is ∙ by_modifier part.modifier plain ∙ ap (λ x. Fixed (c ∷ text) modifiers.None ∷ x ∷ items) (sym is)
  where
    by_modifier : (m : PartModifier) → is_unmodified m ≡ false → with_text (c ∷ text) (Fixed part.value m ∷ items) ≡ Fixed (c ∷ text) modifiers.None ∷ Fixed part.value m ∷ items
    by_modifier modifiers.None e = absurd (false≢true (sym e))
    by_modifier modifiers.Optional e = refl
    by_modifier modifiers.ZeroOrMore e = refl
    by_modifier modifiers.OneOrMore e = refl
text_before options Regexp part c text first items plain is =
    ap (λ x. with_text (c ∷ text) (x ∷ items)) is.1 ∙ ap (λ x. Fixed (c ∷ text) modifiers.None ∷ x ∷ items) (sym is.1)
text_before options SegmentWildcard part c text first items plain is =
    ap (λ x. with_text (c ∷ text) (x ∷ items)) is.1 ∙ ap (λ x. Fixed (c ∷ text) modifiers.None ∷ x ∷ items) (sym is.1)
text_before options FullWildcard part c text first items plain is =
    ap (λ x. with_text (c ∷ text) (x ∷ items)) is.1 ∙ ap (λ x. Fixed (c ∷ text) modifiers.None ∷ x ∷ items) (sym is.1)

-- A text before the items of parts that begin with no plain fixed text.
text_apart : (options : OptionsView) (part : PartView) (parts : List PartView) (text : List ℕ) (items : List Item) → IsTrue (is_plain part) → text ≢ [] → AreApart (part ∷ parts) → AreItemsOf options parts items →
    with_text text items ≡ Fixed text modifiers.None ∷ items
text_apart options part parts [] items plain filled apart are = absurd (filled refl)
text_apart options part [] (c ∷ text) items plain filled apart are =
    ap (with_text (c ∷ text)) are ∙ ap (λ x. Fixed (c ∷ text) modifiers.None ∷ x) (sym are)
text_apart options part (next ∷ parts) (c ∷ text) items plain filled apart are =
    ap (with_text (c ∷ text)) are.2
    ∙ text_before options next.kind next c text are.0 are.1 (sym (ap (λ b. b && is_plain next) plain) ∙ apart.0) are.3
    ∙ ap (λ x. Fixed (c ∷ text) modifiers.None ∷ x) (sym are.2)

-- ---- a plain fixed text

fixed_goes : (part : PartView) → IsTrue (is_fixed_text part.kind) → part.prefix ≡ [] → part.suffix ≡ [] → continues_name part ≡ begins_with is_name_part part.value
fixed_goes part fixed e f =
    goes_by part.prefix part.suffix _ e f ∙ ap (λ b. if b then begins_with is_name_part part.value else not (has_custom_name part)) fixed

modified_printed : (options : OptionsView) (before : Option PartView) (part : PartView) (next : Option PartView) → IsTrue (is_fixed_text part.kind) → is_unmodified part.modifier ≡ false →
    printed_part options before part next ≡ in_braces true (escaped_pattern part.value) ++ modifier_text part.modifier
unfolding printed_part
modified_printed options before part next fixed modified =
    ap (λ b. if b then printed_fixed part else printed_group options before part (needs_braces options before part next)) fixed
    ∙ ap (λ b. in_braces (not b) (escaped_pattern part.value) ++ modifier_text part.modifier) modified

joined_modified : (text : List ℕ) (modifier : PartModifier) (items : List Item) → is_unmodified modifier ≡ false → joined_items (Fixed text modifier ∷ items) ≡ Fixed text modifier ∷ joined_items items
joined_modified text modifiers.None items e = absurd (false≢true (sym e))
joined_modified text modifiers.Optional items e = refl
joined_modified text modifiers.ZeroOrMore items e = refl
joined_modified text modifiers.OneOrMore items e = refl

fixed_kind : (kind : PartType) → IsTrue (is_fixed_text kind) → kind ≡ FixedText
fixed_kind FixedText h = refl
fixed_kind kind h = absurd (no h)

-- ---- before parts that are read back

module _ (options : OptionsView) (whole : List ℕ) (before : Option PartView) (number : ℕ) (part : PartView) (parts : List PartView) where
  abbrev total : ℕ
  total = byte_len whole

  -- The text after the part.
  abbrev rest : List ℕ
  rest = printed_after options (Some part) parts

  -- A fixed text that is printed as this text, with its tokens and pieces before the others.
  step_fixed : (text : List ℕ) (first : List TokenView) (own : List Piece) → IsTrue (is_fixed_text part.kind) → text ≡ printed_part options before part (first_part parts) → (more : ReadsBack options whole (Some part) number parts) →
      Run total [] (text ++ rest) (first ++ more.tokens) → ArePieces options.prefix ((first ++ more.tokens) ++ end_of whole ∷ []) (own ++ more.pieces) (endings.Stops (end_of whole)) →
      joined_items (items_from number (own ++ more.pieces)) ≡ Fixed part.value part.modifier ∷ joined_items (items_from number more.pieces) →
      ((earlier : PartView) → before ≡ Some earlier → Behind options earlier (Some part) (printed_part options before part (first_part parts) ++ rest) ((first ++ more.tokens) ++ end_of whole ∷ [])) →
      ReadsBack options whole before number (part ∷ parts)
  step_fixed text first own fixed spelled more run are_pieces items behind = record {
    tokens = first ++ more.tokens;
    pieces = own ++ more.pieces;
    run = subst (λ t. Run total [] (t ++ rest) (first ++ more.tokens)) spelled run;
    are_pieces = are_pieces;
    are_items = (Fixed part.value part.modifier, joined_items (items_from number more.pieces), items, fixed_item options part.kind part (fixed_kind part.kind fixed), more.are_items);
    behind = after_any options before (Some part) _ _ behind;
  }

  pub step_plain : IsTrue (is_plain part) → part.value ≢ [] → IsUnskipped part.value → part.prefix ≡ [] → part.suffix ≡ [] → AreApart (part ∷ parts) →
      ReadsBack options whole (Some part) number parts → ReadsBack options whole before number (part ∷ parts)
  step_plain plain filled unskipped no_prefix no_suffix apart more =
      step_fixed (escaped_pattern part.value) first (text_pieces part.value) (plain_fixed part plain) spelled more
      (run_joined (text_run total part.value rest unskipped) more.run)
      (subst (λ ts. ArePieces options.prefix ts (text_pieces part.value ++ more.pieces) (endings.Stops (end_of whole))) (sym whole_tokens)
      (are_text_pieces options.prefix total part.value rest last more.pieces (endings.Stops (end_of whole)) more.are_pieces (more.behind.no_placeholder (plain_fixed part plain))))
      (text_items number part.value more.pieces
      ∙ text_apart options part parts part.value (joined_items (items_from number more.pieces)) plain filled apart more.are_items
      ∙ ap (λ m. Fixed part.value m ∷ joined_items (items_from number more.pieces)) (sym (plain_modifier part.kind part.modifier plain)))
      behind
    where
      first : List TokenView
      first = text_tokens total part.value rest

      last : List TokenView
      last = more.tokens ++ end_of whole ∷ []

      spelled : escaped_pattern part.value ≡ printed_part options before part (first_part parts)
      spelled = sym (plain_printed options before part (first_part parts) plain)

      whole_tokens : (first ++ more.tokens) ++ end_of whole ∷ [] ≡ first ++ last
      whole_tokens = append_assoc first more.tokens (end_of whole ∷ [])

      begins_no : (test : TokenType → Bool) → ((kind : TokenType) → IsTrue (is_text kind) → ¬ IsTrue (test kind)) → ¬ BeginsWithKind test ((first ++ more.tokens) ++ end_of whole ∷ [])
      begins_no test others = subst (λ ts. ¬ BeginsWithKind test ts) (sym whole_tokens) (text_first test total part.value rest last others (λ e. absurd (filled e)))

      behind : (earlier : PartView) → before ≡ Some earlier → Behind options earlier (Some part) (printed_part options before part (first_part parts) ++ rest) ((first ++ more.tokens) ++ end_of whole ∷ [])
      behind earlier e = record {
        no_modifier = λ _ _. begins_no is_modifier text_no_modifier;
        no_placeholder = λ _ _ _. begins_no is_placeholder text_no_placeholder;
        no_regexp = λ _ _ _. begins_no is_regexp text_no_regexp;
        no_name_part = λ alone unmodified free. subst (λ t. ¬ BeginsWith is_name_part (t ++ rest)) spelled
            (text_ends part.value rest (sym (fixed_goes part (plain_fixed part plain) no_prefix no_suffix) ∙ goes_not earlier part alone unmodified free) (λ f. absurd (filled f)));
      }

  pub step_modified : IsTrue (is_fixed_text part.kind) → is_unmodified part.modifier ≡ false → IsUnskipped part.value →
      ReadsBack options whole (Some part) number parts → ReadsBack options whole before number (part ∷ parts)
  step_modified fixed modified unskipped more =
      step_fixed (in_braces true (escaped_pattern part.value) ++ modifier_text part.modifier) first (pieces.TextGroup part.value part.modifier ∷ []) fixed spelled more
      (run_joined (braced_run total (escaped_pattern part.value) inner part.modifier rest (text_run total part.value (closing_text part.modifier rest) unskipped)) more.run)
      (are_more options.prefix first more.tokens (end_of whole ∷ []) (pieces.TextGroup part.value part.modifier) more.pieces (endings.Stops (end_of whole))
      (inner, is_braced total (escaped_pattern part.value) inner part.modifier rest (more.tokens ++ end_of whole ∷ []) (λ h. absurd (both_ways _ modified h)), text_are total part.value (closing_text part.modifier rest))
      more.are_pieces)
      (joined_modified part.value part.modifier (items_from number more.pieces) modified)
      behind
    where
      inner : List TokenView
      inner = text_tokens total part.value (closing_text part.modifier rest)

      first : List TokenView
      first = braced_tokens total (escaped_pattern part.value) inner part.modifier rest

      spelled : in_braces true (escaped_pattern part.value) ++ modifier_text part.modifier ≡ printed_part options before part (first_part parts)
      spelled = sym (modified_printed options before part (first_part parts) fixed modified)

      behind : (earlier : PartView) → before ≡ Some earlier → Behind options earlier (Some part) (printed_part options before part (first_part parts) ++ rest) ((first ++ more.tokens) ++ end_of whole ∷ [])
      behind earlier e = record {
        no_modifier = λ _ _. no;
        no_placeholder = λ _ _ _. no;
        no_regexp = λ _ _ _. no;
        no_name_part = λ _ _ _. subst (λ t. ¬ BeginsWith is_name_part (t ++ rest)) spelled (mark_ends (codes "{") refl);
      }
