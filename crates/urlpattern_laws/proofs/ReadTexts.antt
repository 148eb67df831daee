-- Pattern texts that are a plain fixed text, an asterisk or empty: their parts, the meaning of
-- these, and the results of components made of them.
use Rattle.std.proofs.Common.{◌≡◌, ℕ, List, [], ◌∷◌, ◌++◌, refl, sym, ap, ◌∙◌, append_assoc, subst, inl, None, Some, Ok, Err, ◌↔◌}
use Rattle.std.proofs.lemmas.List.{append-nil}
use Rattle.std.specs.Char.{encode_utf8}
use Rattle.std.specs.Fmt.{digits}
use Rattle.std.specs.Prelude.{Option, IsTrue, Result, codes, encode_utf8_all, false}
use Rattle.std.specs.Str.{chars}
use Rattle.url.specs.Parser.{Parsed}
use Rattle.urlpattern_pattern.proofs.MeaningLemmas.{none_custom}
use Rattle.urlpattern_compile.specs.Compiled.{IsComponentCompiled, ParseSettings, canonical_encoding}
use Rattle.urlpattern_pattern.specs.MatchMeaning.{ReadsAs}
use Rattle.urlpattern_matcher.proofs.FirstMatchers.{flags_agree}
use Rattle.urlpattern_matcher.specs.Components.{ComponentView, IsEngineOf, engine_flags, has_regexp}
use Rattle.urlpattern_engine.proofs.EngineLaws.{taken_first}
use Rattle.urlpattern_engine.specs.PatternRegexps.{pattern_result, pattern_engine}
use Rattle.urlpattern_engine.specs.declared.pattern_regexp.PatternRegexp.{PatternRegexp}
use Rattle.urlpattern_meaning.proofs.PlainTexts.{parts_of}
use Rattle.urlpattern_init.specs.UrlTexts.{IsLine}
use Rattle.urlpattern_meaning.proofs.MatchingLaws.{middle_cancel}
use Rattle.urlpattern_meaning.proofs.MeaningExamples.{alone_means, part_alone}
use Rattle.urlpattern_meaning.proofs.MeaningLaws.{one_copy, peeled_means, plain_means}
use Rattle.urlpattern_meaning.proofs.StrippedParts.{middle_one}
use Rattle.urlpattern_meaning.specs.Matching.{Agrees, AreStripped, HoldsEngine, IsMadeBetween, IsMadeOf, MatcherView, Returns, end_text}
use Rattle.urlpattern_meaning.specs.PartMeaning.{AreGenerated, Captures, IsWildcardText, PartsMean}
use Rattle.urlpattern_syntax.proofs.PieceExamples.{PieceCut, bare, ends, piece, pieces_of}
use Rattle.urlpattern_syntax.proofs.ReadingExamples.{tokens_of, unnamed}
use Rattle.urlpattern_syntax.proofs.RegexpTextExamples.{group}
use Rattle.urlpattern_syntax.proofs.TokenExamples.{done, empty, literals, mark, next, no, token}
use Rattle.urlpattern_syntax.specs.Errors.{ErrorView}
use Rattle.urlpattern_syntax.specs.Options.{OptionsView, default_options}
use Rattle.urlpattern_syntax.specs.Parts.{PartView, fixed_text}
use Rattle.urlpattern_syntax.specs.Pieces.{Anything, Bare, Piece, Stops}
use Rattle.urlpattern_syntax.specs.Reading.{AreParts, Encoding, Reads, items_of}
use Rattle.urlpattern_syntax.specs.RegexpText.{escaped, group_names}
use Rattle.urlpattern_syntax.specs.Text.{lacks, line_feed, text_of}
use Rattle.urlpattern_syntax.specs.Tokens.{AreTokens, TokenView}
use Rattle.urlpattern_syntax.specs.declared.parser.PartModifier.TheVariants as modifiers
use Rattle.urlpattern_syntax.specs.declared.parser.PartType.TheVariants.{FullWildcard, SegmentWildcard}
use Rattle.urlpattern_syntax.specs.declared.tokenizer.TokenType.TheVariants.{Asterisk, End}

-- ---- parts

-- The value of a fixed text.
pub canonical_value : (canonical : List ℕ → Parsed (List ℕ)) (text value answer : List ℕ) → chars (encode_utf8_all text) ≡ text → canonical text ≡ Ok answer →
    canonical_encoding canonical text (Ok value) → value ≡ answer
canonical_value canonical text value answer kept is (Ok string, asked, same) =
    let one : canonical text ≡ Ok (text_of string) = ap canonical (sym kept) ∙ asked in cc
canonical_value canonical text value answer kept is (Err error, asked, same) = absurd cc

-- A single plain fixed text.
abbrev pub literal : List ℕ → List PartView
literal text = fixed_text text modifiers.None ∷ []

-- A text of a single plain fixed text, which is kept.
pub literal_read : (canonical : List ℕ → Parsed (List ℕ)) (text : List ℕ) (parts : List PartView) → chars (encode_utf8_all text) ≡ text → canonical text ≡ Ok text →
    (value : List ℕ) × (rest : List PartView) × (parts ≡ fixed_text value modifiers.None ∷ rest) × canonical_encoding canonical text (Ok value) × (rest ≡ []) → parts ≡ literal text
literal_read canonical text parts kept is (value, rest, e, encoded, ended) =
    let same = canonical_value canonical text value text kept is encoded in cc

-- A full wildcard without a name.
abbrev pub anything : List PartView
anything = group FullWildcard [] (codes "0") [] modifiers.None ∷ []

abbrev asterisk_tokens : List TokenView
asterisk_tokens = token Asterisk 0 (codes "*") ∷ token End 1 [] ∷ []

abbrev asterisk_pieces : List Piece
asterisk_pieces = Bare [] (unnamed Anything) modifiers.None ∷ []

asterisk_cut : PieceCut [] (Stops (token End 1 [])) asterisk_tokens asterisk_pieces
asterisk_cut = piece 1 (bare 0 1 (inl (refl, refl)) refl refl tt no) (ends (_, refl, refl))

are_asterisk_tokens : AreTokens (codes "*") asterisk_tokens
unfolding literals
are_asterisk_tokens = tokens_of (token Asterisk 0 (codes "*") ∷ []) (next (mark (refl, refl) tt refl) done)

-- An asterisk reads as a full wildcard.
pub anything_read : (canonical : List ℕ → Parsed (List ℕ)) (parts : List PartView) → canonical [] ≡ Ok [] →
    Reads (codes "*") default_options (canonical_encoding canonical) parts → parts ≡ anything
unfolding escaped encode_utf8 chars digits
anything_read canonical parts is reads =
    let read : AreParts default_options (canonical_encoding canonical) (items_of asterisk_pieces) parts =
    parts_of asterisk_tokens asterisk_pieces (token End 1 []) are_asterisk_tokens (pieces_of asterisk_cut) reads in
    let before = canonical_value canonical [] read.0 [] refl is read.4 in
    let after = canonical_value canonical [] read.1 [] refl is read.5 in
    let found : parts ≡ group FullWildcard read.0 (codes "0") read.1 modifiers.None ∷ read.2 = read.3 in
    let ended : read.2 ≡ [] = read.6 in
    cc

-- An empty text reads as no part.
pub nothing_read : (options : OptionsView) (encoding : Encoding) (parts : List PartView) → Reads [] options encoding parts → parts ≡ []
nothing_read options encoding parts reads = parts_of (token End 0 [] ∷ []) [] (token End 0 []) empty ([], refl, refl) reads

-- ---- the meaning of the parts

pub literal_means : (options : OptionsView) (value text : List ℕ) (captures : Captures) → PartsMean options (literal value) text captures ↔ ((text ≡ value) × (captures ≡ []))
literal_means options value text captures = (
  λ means. (plain_means (fixed_text value modifiers.None) refl).0 (part_alone means),
  λ is. alone_means ((plain_means (fixed_text value modifiers.None) refl).1 is),
)

pub anything_means : (options : OptionsView) (text : List ℕ) → IsTrue (lacks line_feed text) → PartsMean options anything text (Some text ∷ [])
anything_means options text line = alone_means (record {
  count = 1;
  allowed = refl;
  are_copies = (text, [], sym (append-nil text), (text, sym (append-nil text), line), refl);
  are_captures = (Some text, (text, sym (append-nil text), refl), refl);
})

-- A segment after its prefix.
abbrev IsSegment : OptionsView → (prefix text : List ℕ) → Captures → Type 0
IsSegment options prefix text captures = (id : List ℕ) × (text ≡ prefix ++ id) × IsWildcardText options SegmentWildcard id × (captures ≡ Some id ∷ [])

one_segment : (options : OptionsView) (prefix text id inner : List ℕ) (captures : Captures) (capture : Option (List ℕ)) → text ≡ prefix ++ id ++ [] →
    IsWildcardText options SegmentWildcard id → text ≡ prefix ++ inner ++ [] → capture ≡ Some inner → captures ≡ capture ∷ [] → IsSegment options prefix text captures
one_segment options prefix text id inner captures capture e is f g h =
    let same : inner ≡ id = middle_cancel prefix inner id [] (sym f ∙ e) in
    (id, e ∙ append-nil (prefix ++ id), is, h ∙ ap (λ c. c ∷ []) (g ∙ ap Some same))

abbrev segment : (prefix name : List ℕ) → PartView
segment prefix name = group SegmentWildcard prefix name [] modifiers.None

segment_means : (options : OptionsView) (prefix name text : List ℕ) (captures : Captures) →
    PartsMean options (segment prefix name ∷ []) text captures ↔ IsSegment options prefix text captures
segment_means options prefix name text captures = (
  λ means.
      let one = part_alone means in
      let copy = one_copy _ _ _ one.are_copies one.allowed in
      let captured = rw one.allowed at one.are_captures in
      one_segment options prefix text copy.0 captured.1.0 captures captured.0 copy.1 copy.2 captured.1.1 captured.1.2 captured.2,
  λ (id, e, is, h). alone_means (record {
    count = 1;
    allowed = refl;
    are_copies = (text, [], sym (append-nil text), (id, e ∙ sym (append-nil (prefix ++ id)), is), refl);
    are_captures = (Some id, (id, e ∙ sym (append-nil (prefix ++ id)), refl), h);
  }),
)

-- A plain fixed text, and then a segment after its prefix.
abbrev pub text_and_segment : (front prefix name : List ℕ) → List PartView
text_and_segment front prefix name = fixed_text front modifiers.None ∷ segment prefix name ∷ []

segment_peeled : (front prefix name : List ℕ) → AreStripped (text_and_segment front prefix name) (Some (fixed_text front modifiers.None)) (segment prefix name ∷ []) None
segment_peeled front prefix name = record { cut = refl; front_removed = refl; back_removed = no }

-- The meaning of a text and a segment: the text, the prefix and the segment, which is captured.
abbrev pub IsTextAndSegment : OptionsView → (front prefix text : List ℕ) → Captures → Type 0
IsTextAndSegment options front prefix text captures =
    (id : List ℕ) × (text ≡ front ++ prefix ++ id) × IsWildcardText options SegmentWildcard id × (captures ≡ Some id ∷ [])

pub text_and_segment_mean : (options : OptionsView) (front prefix name text : List ℕ) (captures : Captures) →
    PartsMean options (text_and_segment front prefix name) text captures ↔ IsTextAndSegment options front prefix text captures
text_and_segment_mean options front prefix name text captures =
    let peeled = peeled_means options (text_and_segment front prefix name) _ _ _ text captures (segment_peeled front prefix name) in (
      λ means.
          let found = peeled.0 means in
          let (id, e, is, h) = (segment_means options prefix name found.0 captures).0 found.2 in
          (id, found.1 ∙ append-nil (front ++ found.0) ∙ ap (λ t. front ++ t) e ∙ sym (append_assoc front prefix id), is, h),
      λ (id, e, is, h). peeled.1 (
        prefix ++ id,
        e ∙ append_assoc front prefix id ∙ sym (append-nil (front ++ (prefix ++ id))),
        (segment_means options prefix name (prefix ++ id) captures).1 (id, refl, is, h),
      ),
    )

-- ---- a component

module _ {E : Type 0} (IsEngine : (regexp : List ℕ) → Result E ErrorView → Type 0) (options : OptionsView) (matcher : MatcherView E) where
  -- What is left of the parts between plain fixed texts decides whether there is an engine.
  made_of_middle : (parts : List PartView) (front : Option PartView) (middle : List PartView) (back : Option PartView) → AreStripped parts front middle back →
      ((prefix suffix : List ℕ) → IsMadeBetween IsEngine options prefix middle suffix matcher → ¬ HoldsEngine matcher.inner) →
      IsMadeOf IsEngine options parts matcher → ¬ HoldsEngine matcher.inner
  made_of_middle parts front middle back stripped without made =
      without (end_text made.front) (end_text made.back)
      (subst (λ (of : List PartView). IsMadeBetween IsEngine options (end_text made.front) of (end_text made.back) matcher)
      (middle_one parts made.front front made.middle middle made.back back made.are_stripped stripped) made.is_made)

  -- A matcher of a fixed text, of nothing, of anything, or of a text and a segment has no engine.
  pub literal_alone : (text : List ℕ) → IsMadeOf IsEngine options (literal text) matcher → ¬ HoldsEngine matcher.inner
  literal_alone text =
      made_of_middle (literal text) (Some (fixed_text text modifiers.None)) [] None (record { cut = refl; front_removed = refl; back_removed = λ holds. holds })
      (λ prefix suffix made. subst (λ (of : MatcherView E). ¬ HoldsEngine of.inner) (sym made) (λ holds. holds))

  pub nothing_alone : IsMadeOf IsEngine options [] matcher → ¬ HoldsEngine matcher.inner
  nothing_alone =
      made_of_middle [] None [] None (record { cut = refl; front_removed = λ holds. holds; back_removed = λ holds. holds })
      (λ prefix suffix made. subst (λ (of : MatcherView E). ¬ HoldsEngine of.inner) (sym made) (λ holds. holds))

  pub anything_alone : IsMadeOf IsEngine options anything matcher → ¬ HoldsEngine matcher.inner
  anything_alone =
      made_of_middle anything None anything None (record { cut = refl; front_removed = no; back_removed = no })
      (λ prefix suffix made. subst (λ (of : MatcherView E). ¬ HoldsEngine of.inner) (sym made) (λ holds. holds))

  pub segment_alone : (front prefix name : List ℕ) → IsMadeOf IsEngine options (text_and_segment front prefix name) matcher → ¬ HoldsEngine matcher.inner
  segment_alone front prefix name =
      made_of_middle (text_and_segment front prefix name) (Some (fixed_text front modifiers.None)) (segment prefix name ∷ []) None (segment_peeled front prefix name)
      (λ prefix suffix made. subst (λ (of : MatcherView E). ¬ HoldsEngine of.inner) (sym made) (λ holds. holds))

-- A component that is made of these parts, returns what they mean for each text without line feeds,
-- and has their names.
pub record IsOfParts (options : OptionsView) (parts : List PartView) (compiled : ComponentView PatternRegexp) : Type 0 where
  pub means : (text : List ℕ) (result : Option Captures) → IsLine text → Returns pattern_result compiled.matcher text result → Agrees options parts text result
  pub names : compiled.group_name_list ≡ group_names parts
  pub made : IsMadeOf (IsEngineOf pattern_engine false (engine_flags options)) options parts compiled.matcher

-- A compiled component, case kept, whose text reads as these parts alone, none of them custom.
pub of_parts : (settings : ParseSettings) (expected : List PartView) (compiled : ComponentView PatternRegexp) → IsComponentCompiled pattern_engine settings compiled →
    settings.options.ignore_case ≡ false → has_regexp expected ≡ false → ((parts : List PartView) → ReadsAs settings parts → parts ≡ expected) →
    IsOfParts settings.options expected compiled
of_parts settings expected compiled is kept generated read =
    let (parts, reads, made) = is.0 in
    let same : expected ≡ parts = sym (read parts reads) in
    record {
      means = λ text result line answers.
          subst (λ (of : List PartView). Agrees settings.options of text result) (sym same)
          (taken_first settings.options (engine_flags settings.options) parts compiled.matcher (record {
            is_made = made.has_matcher;
            generated = subst (λ (of : List PartView). AreGenerated of) same (none_custom expected generated);
            case_kept = kept;
            took = flags_agree settings.options;
          }) text result line.no_line_feed line.characters answers).1;
      names = made.has_names ∙ ap (λ (of : List PartView). group_names of) (sym same);
      made =
          subst (λ (of : List PartView). IsMadeOf (IsEngineOf pattern_engine false (engine_flags settings.options)) settings.options of compiled.matcher) (sym same) made.has_matcher;
    }
