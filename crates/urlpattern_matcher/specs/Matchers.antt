-- The views of matchers, the fixed texts at the ends of a list of parts, and the captures of
-- wildcards.
use Rattle.std.specs.Prelude.{◌≡◌, ℕ, Bool, true, false, List, [], Option, Some, None, Result, Ok, Err, option_to_list, ◌++◌, IfOk}
use Rattle.urlpattern_matcher.specs.declared.matcher.{InnerMatcher.InnerMatcher, Matcher.Matcher}
use Rattle.urlpattern_meaning.specs.Matching.{AreStripped, BeginsPlain, EndsPlain, IsRemoved, InnerView, IsSame, Literal, MatcherView, RegExp, SingleCapture, end_text}
use Rattle.urlpattern_syntax.specs.declared.error.Error.{Error}
use Rattle.urlpattern_syntax.specs.Errors.{ErrorView, error_view}
use Rattle.urlpattern_syntax.specs.{Options.OptionsView, Parts.PartView, Text.text_of}
use Rattle.urlpattern_syntax.specs.declared.parser.{PartModifier.PartModifier, PartType.PartType}

-- An engine's value, or the view of the error that is kept in its place.
abbrev pub engine_view : {E : Type 0} → Result E Error → Result E ErrorView
engine_view (Ok engine) = Ok engine
engine_view (Err error) = Err (error_view error)

-- The view of what is between the prefix and the suffix of a matcher.
abbrev pub inner_view : {E : Type 0} → InnerMatcher E → InnerView E
inner_view (InnerMatcher.Literal literal) = Literal (text_of literal)
inner_view (InnerMatcher.SingleCapture filter allow_empty) = SingleCapture filter allow_empty
inner_view (InnerMatcher.RegExp regexp) = RegExp (engine_view regexp)

-- The view of `matcher`, with texts as lists of characters.
abbrev pub matcher_view : {E : Type 0} → Matcher E → MatcherView E
matcher_view matcher = record {
  prefix = text_of matcher.prefix;
  suffix = text_of matcher.suffix;
  inner = inner_view matcher.inner;
  ignore_case = matcher.ignore_case;
}

-- If `result` is a matcher, `Holds` is true of the matcher's view. Nothing is said of an error.
abbrev pub IfMatcher : {E Fault : Type 0} → Result (Matcher E) Fault → (MatcherView E → Type 0)
    → Type 0
IfMatcher result Holds = IfOk result (λ matcher. Holds (matcher_view matcher))

-- ---- ends of parts and of texts

-- The view of a matcher of one literal.
abbrev pub literal_view : {E : Type 0} → (ignore_case : Bool) → (literal : List ℕ) → MatcherView E
literal_view ignore_case literal = record {
  prefix = [];
  suffix = [];
  inner = Literal literal;
  ignore_case = ignore_case;
}

-- A fixed text without modifier is removed from each end of `parts`, where there is one: `prefix`
-- and `suffix` are their texts, empty where nothing is removed, and `middle` are the parts between
-- them.
abbrev pub StripsFixedTexts : List PartView → (prefix : List ℕ) → List PartView
    → (suffix : List ℕ) → Type 0
StripsFixedTexts parts prefix middle suffix =
    (front back : Option PartView) × AreStripped parts front middle back
    × (prefix ≡ end_text front)
    × (suffix ≡ end_text back)

-- A fixed text without modifier is removed from the start of the parts, if there is one: `prefix`
-- is its text, empty if nothing is removed, and `rest` are the other parts.
abbrev pub StripsFixedPrefix : List PartView → (prefix : List ℕ) → List PartView → Type 0
StripsFixedPrefix parts prefix rest =
    (front : Option PartView) × (parts ≡ option_to_list front ++ rest)
    × IsRemoved front (BeginsPlain parts)
    × (prefix ≡ end_text front)

-- A fixed text without modifier is removed from the end of the parts, if there is one: `suffix` is
-- its text, empty if nothing is removed, and `middle` are the other parts.
abbrev pub StripsFixedSuffix : List PartView → List PartView → (suffix : List ℕ) → Type 0
StripsFixedSuffix parts middle suffix =
    (back : Option PartView) × (parts ≡ middle ++ option_to_list back)
    × IsRemoved back (EndsPlain parts)
    × (suffix ≡ end_text back)

-- What a wildcard without modifier captures: the character that the captured text may not contain,
-- if there is one, and whether the text may be empty. None: the part is not a wildcard, or has a
-- modifier.
abbrev pub capture_of : OptionsView → PartType → PartModifier → Option (Option ℕ × Bool)
capture_of options PartType.FullWildcard PartModifier.None = Some (None, true)
capture_of options PartType.SegmentWildcard PartModifier.None = Some (options.delimiter, false)
capture_of options kind modifier = None

-- `text` is `prefix`, where the case of ASCII letters is ignored, followed by `rest`.
abbrev pub BeginsWithFolded : (prefix text rest : List ℕ) → Type 0
BeginsWithFolded prefix text rest =
    (front : List ℕ) × (text ≡ front ++ rest) × IsSame true front prefix

-- `text` is `rest`, followed by `suffix`, where the case of ASCII letters is ignored.
abbrev pub EndsWithFolded : (suffix text rest : List ℕ) → Type 0
EndsWithFolded suffix text rest = (back : List ℕ) × (text ≡ rest ++ back) × IsSame true back suffix
