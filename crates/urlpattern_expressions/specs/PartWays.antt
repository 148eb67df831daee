-- The ways in which a custom expression, or parts with custom ones among them, match the start of a
-- text, in the order of a backtracking engine, and the captures of the first way that matches the
-- whole text. A `WaysByText` returns the ways to match the start of a text.
use Rattle.std.specs.Prelude.{ℕ, Bool, true, false, not, ◌&&◌, ◌==◌, List, [], ◌∷◌, ◌++◌, length, map, find, Option, Some, None, option_map}
use Rattle.regex_class.specs.Ranges.{in_ranges}
use Rattle.regex_hir.specs.Re.{Re, empty, literal, byte_in, char_in, look, cat, alt, group, plus}
use Rattle.regex_hir.specs.Text.{char_at, is_some_and}
use Rattle.regex_syntax.specs.Brackets.{Nested}
use Rattle.regex_syntax.specs.Grammar.{Names, read}
use Rattle.regex_syntax.specs.declared.Config.{Config}
use Rattle.urlpattern_expressions.specs.Expressions.{config_for}
use Rattle.urlpattern_meaning.specs.Dialect.{Optional, ZeroOrMore, OneOrMore}
use Rattle.urlpattern_meaning.specs.{Matching.is_same_character, PartMeaning.Captures}
use Rattle.urlpattern_meaning.specs.Ways.{WaysByText, capturing, continued, empty_way, looped, one_that, quantified_ways}
use Rattle.urlpattern_syntax.specs.{Options.OptionsView, Parts.PartView, RegexpText.is_empty}
use Rattle.urlpattern_syntax.specs.declared.parser.{PartModifier.PartModifier, PartType.PartType}
use Rattle.urlpattern_syntax.specs.Text.{line_feed}

-- ---- sequences of choices

-- Each way of the first choice, continued by each way of the next choice on the rest of the text.
abbrev pub followed_by : (first next : WaysByText) → WaysByText
followed_by first next text = continued next (first text)

-- The ways of the choice, each with the text that it matches as its first capture.
abbrev pub captured_whole : WaysByText → WaysByText
captured_whole choice text = map capturing (choice text)

-- ---- custom expressions

-- The ways of a pattern whose steps match characters: the first alternative is preferred, and a
-- further round of a loop if the loop is greedy. Groups capture nothing; byte classes and
-- assertions have no way.
abbrev pub pattern_ways : Re → WaysByText
pattern_ways empty text = empty_way 0 text ∷ []
pattern_ways (literal bytes) text =
    one_that (λ c. is_some_and (char_at bytes 0) (λ written. c == written)) text
pattern_ways (byte_in ranges) text = []
pattern_ways (char_in ranges) text = one_that (in_ranges ranges) text
pattern_ways (look assertion) text = []
pattern_ways (cat first second) text = continued (pattern_ways second) (pattern_ways first text)
pattern_ways (alt first second) text = pattern_ways first text ++ pattern_ways second text
pattern_ways (group number inner) text = pattern_ways inner text
pattern_ways (plus greedy inner) text = looped greedy (pattern_ways inner) text

-- The ways of the pattern that the grammar reads, or no way if it reads nothing.
abbrev pub ways_of_reading : Option (Nested Re × Names) → WaysByText
ways_of_reading None text = []
ways_of_reading (Some (pattern, names)) text = pattern_ways pattern.value text

-- The ways of an expression, as the grammar of `regex` with these options reads it by itself.
abbrev pub expression_ways_as : Config → (expression : List ℕ) → WaysByText
expression_ways_as config expression text = ways_of_reading (read config expression) text

-- ---- one part

-- The ways of a group without prefix and suffix, by its modifier. `piece` has the ways of a single
-- match.
abbrev pub bare_ways : PartModifier → (piece : WaysByText) → WaysByText
bare_ways PartModifier.None piece text = captured_whole piece text
bare_ways PartModifier.Optional piece text = quantified_ways Optional 1 (captured_whole piece) text
bare_ways PartModifier.ZeroOrMore piece text =
    captured_whole (quantified_ways ZeroOrMore 0 piece) text
bare_ways PartModifier.OneOrMore piece text =
    captured_whole (quantified_ways OneOrMore 0 piece) text

-- `same` says whether a character of the text matches a given one, of a fixed text or the
-- delimiter.
module _ (same : (c given : ℕ) → Bool) where
  -- The way to match the given text, character by character; no way if the text does not begin with
  -- it.
  abbrev pub exactly_as : (given : List ℕ) → WaysByText
  exactly_as [] text = empty_way 0 text ∷ []
  exactly_as (c ∷ given) text = continued (exactly_as given) (one_that (λ other. same other c) text)

  -- Whether a segment may have the character: all but the delimiter, or all but line feeds if there
  -- is none.
  abbrev pub is_in_segment_as : (delimiter : Option ℕ) → (c : ℕ) → Bool
  is_in_segment_as None c = not (c == line_feed)
  is_in_segment_as (Some delimiter) c = not (same c delimiter)

  -- The ways of a fixed text, as often as its modifier allows.
  abbrev pub fixed_ways_as : PartModifier → (value : List ℕ) → WaysByText
  fixed_ways_as PartModifier.None value text = exactly_as value text
  fixed_ways_as PartModifier.Optional value text =
      quantified_ways Optional 0 (exactly_as value) text
  fixed_ways_as PartModifier.ZeroOrMore value text =
      quantified_ways ZeroOrMore 0 (exactly_as value) text
  fixed_ways_as PartModifier.OneOrMore value text =
      quantified_ways OneOrMore 0 (exactly_as value) text

  -- The ways of `core`, captured, between prefix and suffix.
  abbrev pub between_ways_as : (prefix suffix : List ℕ) → (core : WaysByText) → WaysByText
  between_ways_as prefix suffix core text =
      followed_by (followed_by (exactly_as prefix) (captured_whole core)) (exactly_as suffix) text

  -- The ways of a single match of `piece`, and of any number of further matches, each after suffix
  -- and prefix.
  abbrev pub several_ways_as : (prefix suffix : List ℕ) → (piece : WaysByText) → WaysByText
  several_ways_as prefix suffix piece text =
      followed_by piece (quantified_ways ZeroOrMore 0
      (followed_by (followed_by (exactly_as suffix) (exactly_as prefix)) piece)) text

  -- The ways of a group with a prefix or a suffix, by its modifier. `piece` has the ways of a
  -- single match.
  abbrev pub affixed_ways_as : PartModifier → (prefix suffix : List ℕ) → (piece : WaysByText)
      → WaysByText
  affixed_ways_as PartModifier.None prefix suffix piece text =
      between_ways_as prefix suffix piece text
  affixed_ways_as PartModifier.Optional prefix suffix piece text =
      quantified_ways Optional 1 (between_ways_as prefix suffix piece) text
  affixed_ways_as PartModifier.OneOrMore prefix suffix piece text =
      between_ways_as prefix suffix (several_ways_as prefix suffix piece) text
  affixed_ways_as PartModifier.ZeroOrMore prefix suffix piece text =
      quantified_ways Optional 1
      (between_ways_as prefix suffix (several_ways_as prefix suffix piece)) text

  -- The ways of a group, by its modifier and by whether prefix and suffix are both empty.
  abbrev pub copies_ways_as : (is_bare : Bool) → PartModifier
      → (prefix suffix : List ℕ) → (piece : WaysByText) → WaysByText
  copies_ways_as true modifier prefix suffix piece text = bare_ways modifier piece text
  copies_ways_as false modifier prefix suffix piece text =
      affixed_ways_as modifier prefix suffix piece text

-- `config` has the options by which the grammar reads custom expressions. `same` says whether a
-- character of the text matches a given one.
module _ (config : Config) (same : (c given : ℕ) → Bool) where
  -- The ways of a single match of a group of this kind, without prefix and suffix. A fixed text has
  -- no way here.
  abbrev pub piece_ways_as : OptionsView → PartType → (value : List ℕ) → WaysByText
  piece_ways_as options PartType.FixedText value text = []
  piece_ways_as options PartType.Regexp value text = expression_ways_as config value text
  piece_ways_as options PartType.SegmentWildcard value text =
      looped false (one_that (is_in_segment_as same options.delimiter)) text
  piece_ways_as options PartType.FullWildcard value text =
      quantified_ways ZeroOrMore 0 (one_that (λ c. not (c == line_feed))) text

  -- The ways of a part of this kind, as often as its modifier allows.
  abbrev pub part_ways_as : PartType → OptionsView → PartView → WaysByText
  part_ways_as PartType.FixedText options part text =
      fixed_ways_as same part.modifier part.value text
  part_ways_as kind options part text =
      copies_ways_as same (is_empty part.prefix && is_empty part.suffix) part.modifier
      part.prefix part.suffix (piece_ways_as options kind part.value) text

  -- The ways of parts, one after the other.
  abbrev pub parts_ways_as : OptionsView → List PartView → WaysByText
  parts_ways_as options [] text = empty_way 0 text ∷ []
  parts_ways_as options (part ∷ parts) text =
      continued (parts_ways_as options parts) (part_ways_as part.kind options part text)

-- ---- a list of parts

-- The ways of parts, with case ignored or kept: the grammar reads custom expressions with the flag
-- `i` or without, and ASCII letters of other texts are compared in lower case or as they are.
abbrev pub parts_ways_by : (ignore_case : Bool) → OptionsView → List PartView → WaysByText
parts_ways_by ignore_case = parts_ways_as (config_for ignore_case) (is_same_character ignore_case)

-- The captures of the first way that matches the whole text, with case ignored or kept, or `None`
-- if no way does.
unfoldable pub parts_first_way_by : (ignore_case : Bool) → OptionsView → List PartView → List ℕ
    → Option Captures
parts_first_way_by ignore_case options parts text =
    option_map (λ way. way.captures)
    (find (λ way. length way.rest == 0) (parts_ways_by ignore_case options parts text))

-- The captures of the first way that matches the whole text where case is kept, or `None` if no way
-- does.
abbrev pub parts_first_way : OptionsView → List PartView → List ℕ → Option Captures
parts_first_way = parts_first_way_by false

-- ---- where case is kept

-- The ways of an expression where case is kept.
abbrev pub expression_ways : (expression : List ℕ) → WaysByText
expression_ways = expression_ways_as (config_for false)

-- The ways of parts where case is kept.
abbrev pub parts_ways : OptionsView → List PartView → WaysByText
parts_ways = parts_ways_by false
