-- The ways of parts of ASCII do not differ on ASCII, by two tests of characters that do not.
use Rattle.std.proofs.Common.{◌≡◌, ℕ, zero, suc, ◌<◌, Bool, true, false, ◌&&◌, ◌==◌, not, All, List, [], ◌∷◌, Option, Some, None, refl, ap, subst}
use Rattle.std.proofs.lemmas.List.Elements.{All-head, All-tail}
use Rattle.std.specs.Prelude.{IfSome, IsAscii}
use Rattle.regex_syntax.specs.Grammar.{read}
use Rattle.regex_syntax.specs.declared.Config.{Config}
use Rattle.urlpattern_engine.proofs.AsciiWays.{Alike, alike_continued, alike_empty, alike_looped, alike_one, alike_quantified, rest_ascii, same_capturing}
use Rattle.urlpattern_engine.proofs.AtomsRead.{grammar_same}
use Rattle.urlpattern_engine.proofs.FoldedCharacters.{grammar_same-ascii}
use Rattle.urlpattern_expressions.specs.Expressions.{config_for}
use Rattle.urlpattern_expressions.specs.PartWays.{affixed_ways_as, bare_ways, between_ways_as, captured_whole, copies_ways_as, exactly_as, fixed_ways_as, followed_by, is_in_segment_as, part_ways_as, parts_first_way_by, parts_ways_as, piece_ways_as, several_ways_as, ways_of_reading}
use Rattle.urlpattern_expressions.specs.SimpleExpressions.{HasAsciiTexts}
use Rattle.urlpattern_laws.proofs.Choices.{Cuts, HasCaptures, pattern_cuts}
use Rattle.urlpattern_meaning.proofs.WayLists.{every-weaker}
use Rattle.urlpattern_meaning.proofs.WaysJoined.{first_of}
use Rattle.urlpattern_meaning.proofs.WaysSound.{IsSound}
use Rattle.urlpattern_meaning.specs.Dialect.{Optional, ZeroOrMore, OneOrMore}
use Rattle.urlpattern_meaning.specs.Matching.{is_same_character}
use Rattle.urlpattern_meaning.specs.Ways.{WaysByText, one_that, quantified_ways}
use Rattle.urlpattern_syntax.specs.Options.{OptionsView}
use Rattle.urlpattern_syntax.specs.Parts.{PartView}
use Rattle.urlpattern_syntax.specs.RegexpText.{is_empty}
use Rattle.urlpattern_syntax.specs.Text.{line_feed}
use Rattle.urlpattern_syntax.specs.declared.parser.PartModifier.{PartModifier}
use Rattle.urlpattern_syntax.specs.declared.parser.PartModifier.TheVariants as modifiers
use Rattle.urlpattern_syntax.specs.declared.parser.PartType.{PartType}
use Rattle.urlpattern_syntax.specs.declared.parser.PartType.TheVariants.{FixedText, Regexp, SegmentWildcard, FullWildcard}

-- A choice that splits texts leaves ASCII of ASCII.
alike_itself : (choice : WaysByText) (count : ℕ) → Cuts choice count → Alike choice choice
alike_itself choice count cuts text h = (
  refl,
  every-weaker (IsSound text (HasCaptures count)) _ (choice text) (λ way p. rest_ascii way.taken way.rest (subst IsAscii p.0 h)) (cuts text),
)

alike_followed : (first also next other : WaysByText) → Alike first also → Alike next other → Alike (followed_by first next) (followed_by also other)
alike_followed first also next other p q text h = alike_continued next other first also q p text h

alike_captured : (choice other : WaysByText) → Alike choice other → Alike (captured_whole choice) (captured_whole other)
alike_captured choice other p text h = same_capturing (choice text) (other text) (p text h)

alike_reading : (config : Config) (value : List ℕ) → Alike (ways_of_reading (read config value)) (ways_of_reading (read config value))
alike_reading config value text h = by (read config value) text h
  where
    by : (found : _) → Alike (ways_of_reading found) (ways_of_reading found)
    by None text h = (refl, tt)
    by (Some (pattern, names)) text h = alike_itself _ 0 (pattern_cuts pattern.value) text h

alike_bare : (modifier : PartModifier) (piece other : WaysByText) → Alike piece other → Alike (bare_ways modifier piece) (bare_ways modifier other)
alike_bare modifiers.None piece other p text h = alike_captured piece other p text h
alike_bare modifiers.Optional piece other p text h = alike_quantified Optional 1 (captured_whole piece) (captured_whole other) (alike_captured piece other p) text h
alike_bare modifiers.ZeroOrMore piece other p text h =
    alike_captured (quantified_ways ZeroOrMore 0 piece) (quantified_ways ZeroOrMore 0 other) (alike_quantified ZeroOrMore 0 piece other p) text h
alike_bare modifiers.OneOrMore piece other p text h =
    alike_captured (quantified_ways OneOrMore 0 piece) (quantified_ways OneOrMore 0 other) (alike_quantified OneOrMore 0 piece other p) text h

-- Two tests of whether a character of the text matches a given one, which do not differ on ASCII.
module _ (config : Config) (same other : (c given : ℕ) → Bool) (agree : (c given : ℕ) → c < 128 → given < 128 → same c given ≡ other c given) where
  exactly_alike : (given : List ℕ) → IsAscii given → Alike (exactly_as same given) (exactly_as other given)
  exactly_alike [] spelled text h = alike_empty 0 text h
  exactly_alike (c ∷ given) spelled text h =
      alike_continued (exactly_as same given) (exactly_as other given) (one_that (λ d. same d c)) (one_that (λ d. other d c))
      (exactly_alike given (λ i. spelled (suc i))) (alike_one (λ d. same d c) (λ d. other d c) (λ d ascii. agree d c ascii (spelled zero))) text h

  fixed_alike : (modifier : PartModifier) (value : List ℕ) → IsAscii value → Alike (fixed_ways_as same modifier value) (fixed_ways_as other modifier value)
  fixed_alike modifiers.None value spelled text h = exactly_alike value spelled text h
  fixed_alike modifiers.Optional value spelled text h = alike_quantified Optional 0 (exactly_as same value) (exactly_as other value) (exactly_alike value spelled) text h
  fixed_alike modifiers.ZeroOrMore value spelled text h = alike_quantified ZeroOrMore 0 (exactly_as same value) (exactly_as other value) (exactly_alike value spelled) text h
  fixed_alike modifiers.OneOrMore value spelled text h = alike_quantified OneOrMore 0 (exactly_as same value) (exactly_as other value) (exactly_alike value spelled) text h

  segment_alike : (delimiter : Option ℕ) → IfSome delimiter (λ c. c < 128) → (c : ℕ) → c < 128 → is_in_segment_as same delimiter c ≡ is_in_segment_as other delimiter c
  segment_alike None spelled c ascii = refl
  segment_alike (Some delimiter) spelled c ascii = ap not (agree c delimiter ascii spelled)

  module _ (options : OptionsView) (delimited : IfSome options.delimiter (λ c. c < 128)) where
    piece_alike : (kind : PartType) (value : List ℕ) → Alike (piece_ways_as config same options kind value) (piece_ways_as config other options kind value)
    piece_alike FixedText value text h = (refl, tt)
    piece_alike Regexp value text h = alike_reading config value text h
    piece_alike SegmentWildcard value text h =
        alike_looped false (one_that (is_in_segment_as same options.delimiter)) (one_that (is_in_segment_as other options.delimiter))
        (alike_one (is_in_segment_as same options.delimiter) (is_in_segment_as other options.delimiter) (segment_alike options.delimiter delimited)) text h
    piece_alike FullWildcard value text h =
        let any : WaysByText = one_that (λ c. not (c == line_feed)) in
        alike_quantified ZeroOrMore 0 any any (alike_one (λ c. not (c == line_feed)) (λ c. not (c == line_feed)) (λ c ascii. refl)) text h

  module _ (prefix suffix : List ℕ) (before : IsAscii prefix) (after : IsAscii suffix) where
    between_alike : (core also : WaysByText) → Alike core also → Alike (between_ways_as same prefix suffix core) (between_ways_as other prefix suffix also)
    between_alike core also p text h =
        alike_followed (followed_by (exactly_as same prefix) (captured_whole core)) (followed_by (exactly_as other prefix) (captured_whole also)) (exactly_as same suffix) (exactly_as other suffix)
        (alike_followed (exactly_as same prefix) (exactly_as other prefix) (captured_whole core) (captured_whole also) (exactly_alike prefix before) (alike_captured core also p))
        (exactly_alike suffix after) text h

    several_alike : (piece also : WaysByText) → Alike piece also → Alike (several_ways_as same prefix suffix piece) (several_ways_as other prefix suffix also)
    several_alike piece also p text h =
        let own : WaysByText = followed_by (followed_by (exactly_as same suffix) (exactly_as same prefix)) piece in
        let its : WaysByText = followed_by (followed_by (exactly_as other suffix) (exactly_as other prefix)) also in
        alike_followed piece also (quantified_ways ZeroOrMore 0 own) (quantified_ways ZeroOrMore 0 its) p
        (alike_quantified ZeroOrMore 0 own its
        (alike_followed (followed_by (exactly_as same suffix) (exactly_as same prefix)) (followed_by (exactly_as other suffix) (exactly_as other prefix)) piece also
        (alike_followed (exactly_as same suffix) (exactly_as other suffix) (exactly_as same prefix) (exactly_as other prefix) (exactly_alike suffix after) (exactly_alike prefix before)) p))
        text h

    affixed_alike : (modifier : PartModifier) (piece also : WaysByText) → Alike piece also → Alike (affixed_ways_as same modifier prefix suffix piece) (affixed_ways_as other modifier prefix suffix also)
    affixed_alike modifiers.None piece also p text h = between_alike piece also p text h
    affixed_alike modifiers.Optional piece also p text h =
        alike_quantified Optional 1 (between_ways_as same prefix suffix piece) (between_ways_as other prefix suffix also) (between_alike piece also p) text h
    affixed_alike modifiers.OneOrMore piece also p text h =
        between_alike (several_ways_as same prefix suffix piece) (several_ways_as other prefix suffix also) (several_alike piece also p) text h
    affixed_alike modifiers.ZeroOrMore piece also p text h =
        alike_quantified Optional 1 (between_ways_as same prefix suffix (several_ways_as same prefix suffix piece)) (between_ways_as other prefix suffix (several_ways_as other prefix suffix also))
        (between_alike (several_ways_as same prefix suffix piece) (several_ways_as other prefix suffix also) (several_alike piece also p)) text h

    copies_alike : (is_bare : Bool) (modifier : PartModifier) (piece also : WaysByText) → Alike piece also
        → Alike (copies_ways_as same is_bare modifier prefix suffix piece) (copies_ways_as other is_bare modifier prefix suffix also)
    copies_alike true modifier piece also p text h = alike_bare modifier piece also p text h
    copies_alike false modifier piece also p text h = affixed_alike modifier piece also p text h

  module _ (options : OptionsView) (delimited : IfSome options.delimiter (λ c. c < 128)) where
    part_alike : (kind : PartType) (part : PartView) → HasAsciiTexts part → Alike (part_ways_as config same kind options part) (part_ways_as config other kind options part)
    part_alike FixedText part spelled text h = fixed_alike part.modifier part.value spelled.0 text h
    part_alike kind part spelled text h =
        copies_alike part.prefix part.suffix spelled.1 spelled.2 (is_empty part.prefix && is_empty part.suffix) part.modifier
        (piece_ways_as config same options kind part.value) (piece_ways_as config other options kind part.value) (piece_alike options delimited kind part.value) text h

    pub parts_alike : (parts : List PartView) → All HasAsciiTexts parts → Alike (parts_ways_as config same options parts) (parts_ways_as config other options parts)
    parts_alike [] spelled text h = alike_empty 0 text h
    parts_alike (part ∷ parts) spelled text h =
        alike_continued (parts_ways_as config same options parts) (parts_ways_as config other options parts)
        (part_ways_as config same part.kind options part) (part_ways_as config other part.kind options part)
        (parts_alike parts (All-tail HasAsciiTexts part parts spelled)) (part_alike part.kind part (All-head HasAsciiTexts part parts spelled)) text h

-- With the grammar's test of characters, the first way of parts of ASCII in a text of ASCII is that
-- with letters compared in lower case, if case is ignored.
pub first_in_lower_case : (ignore_case : Bool) (options : OptionsView) → IfSome options.delimiter (λ c. c < 128) → (parts : List PartView) → All HasAsciiTexts parts → (text : List ℕ) → IsAscii text
    → first_of (parts_ways_as (config_for ignore_case) (grammar_same ignore_case) options parts text) ≡ parts_first_way_by ignore_case options parts text
unfolding parts_first_way_by
first_in_lower_case ignore_case options delimited parts spelled text ascii =
    ap first_of (parts_alike (config_for ignore_case) (grammar_same ignore_case) (is_same_character ignore_case) (grammar_same-ascii ignore_case) options delimited parts spelled text ascii).0
