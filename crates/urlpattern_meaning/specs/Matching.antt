-- Which matcher is made from a list of parts, what a matcher returns for a text, and when that is
-- what the parts mean.
use Rattle.std.specs.Prelude.{◌≡◌, ◌≢◌, ◌⊎◌, ◌==◌, ℕ, Bool, true, false, List, [], ◌∷◌, ◌++◌, codes, map, Option, Some, None, Result, Ok, Err, IsTrue, if◌then◌else◌, option_map, option_to_list}
use Rattle.std.specs.{Char.to_ascii_lowercase, Str.all_scalars}
use Rattle.urlpattern_meaning.specs.Dialect.{Follows}
use Rattle.urlpattern_syntax.specs.{Errors.ErrorView, Options.OptionsView, Parts.PartView}
use Rattle.urlpattern_meaning.specs.PartMeaning.{AreGenerated, Captures, PartsMean}
use Rattle.urlpattern_syntax.specs.declared.parser.{PartModifier.PartModifier, PartType.PartType}
use Rattle.urlpattern_syntax.specs.RegexpText.{is_plain, regexp_text}
use Rattle.urlpattern_syntax.specs.Text.{lacks, line_feed}

-- What matches a text between a matcher's prefix and suffix: a literal; one capture of any text
-- without the character `filter`, which may be empty if `allow_empty` is set; or an engine's value,
-- or the error by which the engine rejected its regular expression.
pub data InnerView (E : Type 0) : Type 0 where
  Literal : List ℕ → InnerView E
  SingleCapture : (filter : Option ℕ) → (allow_empty : Bool) → InnerView E
  RegExp : Result E ErrorView → InnerView E

-- A `Matcher`, as clauses see it: a text matches if it is `prefix`, a text that `inner` matches,
-- and `suffix`.
pub record MatcherView (E : Type 0) : Type 0 where
  pub prefix : List ℕ
  pub suffix : List ℕ
  pub inner : InnerView E
  pub ignore_case : Bool

-- ---- making

-- The first part is a plain fixed text, that is, one without a modifier.
abbrev pub BeginsPlain : List PartView → Type 0
BeginsPlain [] = ⊥
BeginsPlain (part ∷ parts) = IsTrue (is_plain part)

-- The last part is a plain fixed text, that is, one without a modifier.
abbrev pub EndsPlain : List PartView → Type 0
EndsPlain [] = ⊥
EndsPlain (part ∷ []) = IsTrue (is_plain part)
EndsPlain (part ∷ next ∷ parts) = EndsPlain (next ∷ parts)

-- The part that is removed is a plain fixed text, or it is None because `IsThere`, that there is a
-- plain fixed text to remove, does not hold.
abbrev pub IsRemoved : Option PartView → (IsThere : Type 0) → Type 0
IsRemoved (Some part) IsThere = IsTrue (is_plain part)
IsRemoved None IsThere = ¬ IsThere

-- The prefix or suffix of a matcher, for the plain fixed text that is removed from the start or the
-- end of the parts. Empty for None, where none is removed.
abbrev pub end_text : Option PartView → List ℕ
end_text (Some part) = part.value
end_text None = []

-- If there is a plain fixed text at the start of `parts`, `front` is that part, and if there is one
-- at the end of what remains, `back` is that part; otherwise they are None. `middle` is the parts
-- that are left.
pub record AreStripped (parts : List PartView) (front : Option PartView) (middle : List PartView)
    (back : Option PartView) : Type 0 where
  pub cut : parts ≡ option_to_list front ++ middle ++ option_to_list back
  pub front_removed : IsRemoved front (BeginsPlain parts)
  pub back_removed : IsRemoved back (EndsPlain middle)

-- The matcher has, between the texts `prefix` and `suffix`, an engine's value or error, which
-- `IsEngine` relates to the regular expression of the parts `middle`.
abbrev pub IsMadeByEngine : {E : Type 0}
    → (IsEngine : (regexp : List ℕ) → Result E ErrorView → Type 0)
    → OptionsView → (prefix : List ℕ) → List PartView → (suffix : List ℕ) → MatcherView E → Type 0
IsMadeByEngine {E} IsEngine options prefix middle suffix matcher =
    (engine : Result E ErrorView) × IsEngine (regexp_text options middle) engine
    × (matcher
    ≡ record {
      prefix = prefix;
      suffix = suffix;
      inner = RegExp engine;
      ignore_case = options.ignore_case;
    })

-- The matcher that captures, for the part, a text without the character `filter`, with None any
-- text, which may be empty if `allow_empty` is set. Its prefix is `prefix` and then the part's
-- prefix, and its suffix is the part's suffix and then `suffix`.
abbrev pub single_capture_matcher : {E : Type 0} → OptionsView → (prefix : List ℕ) → PartView
    → (suffix : List ℕ) → (filter : Option ℕ) → (allow_empty : Bool) → MatcherView E
single_capture_matcher options prefix part suffix filter allow_empty = record {
  prefix = prefix ++ part.prefix;
  suffix = part.suffix ++ suffix;
  inner = SingleCapture filter allow_empty;
  ignore_case = options.ignore_case;
}

-- The matcher is made from a single part of this kind and modifier, which is left between the texts
-- `prefix` and `suffix`: a wildcard without modifier is a single capture, and for any other part
-- there is an engine.
abbrev pub IsMadeOfOne : {E : Type 0} → (IsEngine : (regexp : List ℕ) → Result E ErrorView → Type 0)
    → PartType → PartModifier → OptionsView → (prefix : List ℕ) → PartView
    → (suffix : List ℕ) → MatcherView E → Type 0
IsMadeOfOne IsEngine PartType.FullWildcard PartModifier.None options prefix part suffix matcher =
    matcher ≡ single_capture_matcher options prefix part suffix None true
IsMadeOfOne IsEngine PartType.SegmentWildcard PartModifier.None options prefix part suffix matcher =
    matcher ≡ single_capture_matcher options prefix part suffix options.delimiter false
IsMadeOfOne IsEngine kind modifier options prefix part suffix matcher =
    IsMadeByEngine IsEngine options prefix (part ∷ []) suffix matcher

-- The matcher is made from the parts that are left between the removed texts `prefix` and `suffix`.
-- If no part is left, it is a literal, otherwise a single capture or an engine.
abbrev pub IsMadeBetween : {E : Type 0}
    → (IsEngine : (regexp : List ℕ) → Result E ErrorView → Type 0)
    → OptionsView → (prefix : List ℕ) → List PartView → (suffix : List ℕ) → MatcherView E → Type 0
IsMadeBetween IsEngine options prefix [] suffix matcher =
    matcher
    ≡ record {
      prefix = [];
      suffix = [];
      inner = Literal (prefix ++ suffix);
      ignore_case = options.ignore_case;
    }
IsMadeBetween IsEngine options prefix (part ∷ []) suffix matcher =
    IsMadeOfOne IsEngine part.kind part.modifier options prefix part suffix matcher
IsMadeBetween IsEngine options prefix (part ∷ next ∷ parts) suffix matcher =
    IsMadeByEngine IsEngine options prefix (part ∷ next ∷ parts) suffix matcher

-- The matcher is made from the parts: plain fixed texts are removed from the ends, and between them
-- the matcher has a literal, a single capture or an engine. `IsEngine` relates a regular expression
-- to the value or error of its engine.
pub record IsMadeOf {E : Type 0} (IsEngine : (regexp : List ℕ) → Result E ErrorView → Type 0)
    (options : OptionsView) (parts : List PartView) (matcher : MatcherView E) : Type 0 where
  pub front : Option PartView
  pub middle : List PartView
  pub back : Option PartView
  pub are_stripped : AreStripped parts front middle back
  pub is_made : IsMadeBetween IsEngine options (end_text front) middle (end_text back) matcher

-- ---- matching

-- The text, in which ASCII letters are in lower case if `ignore_case` is set.
abbrev pub folded : (ignore_case : Bool) → List ℕ → List ℕ
folded ignore_case text = if ignore_case then map to_ascii_lowercase text else text

-- The character, in lower case if it is an ASCII letter and `ignore_case` is set.
abbrev pub folded_character : (ignore_case : Bool) → ℕ → ℕ
folded_character ignore_case c = if ignore_case then to_ascii_lowercase c else c

-- The captures, with ASCII letters in lower case.
abbrev pub folded_captures : Captures → Captures
folded_captures captures = map (λ capture. option_map (folded true) capture) captures

-- Whether two characters are equal, except for the case of ASCII letters if `ignore_case` is set.
abbrev pub is_same_character : (ignore_case : Bool) → (c other : ℕ) → Bool
is_same_character ignore_case c other =
    folded_character ignore_case c == folded_character ignore_case other

-- Two texts are equal, except for the case of ASCII letters if `ignore_case` is set.
abbrev pub IsSame : (ignore_case : Bool) → (text other : List ℕ) → Type 0
IsSame ignore_case text other = folded ignore_case text ≡ folded ignore_case other

-- The text does not contain the character, in either case if it is an ASCII letter and
-- `ignore_case` is set. With None any text passes.
abbrev pub PassesFilter : (ignore_case : Bool) → Option ℕ → List ℕ → Type 0
PassesFilter ignore_case None text = Unit {0}
PassesFilter ignore_case (Some c) text =
    IsTrue (lacks (folded_character ignore_case c) (folded ignore_case text))

-- The text is not empty, or `allow_empty` is set.
abbrev pub MayBeEmpty : (allow_empty : Bool) → List ℕ → Type 0
MayBeEmpty true text = Unit {0}
MayBeEmpty false text = text ≢ []

-- The inner matcher accepts the text, which is between prefix and suffix, with these captures. An
-- engine's value accepts by its result, `answer`. `ignore_case` is the matcher's field.
abbrev pub Accepts : {E : Type 0} → (answer : E → List ℕ → Option Captures)
    → (ignore_case : Bool) → InnerView E → List ℕ → Captures → Type 0
Accepts answer ignore_case (Literal literal) text captures =
    IsSame ignore_case text literal × (captures ≡ [])
Accepts answer ignore_case (SingleCapture filter allow_empty) text captures =
    MayBeEmpty allow_empty text × PassesFilter ignore_case filter text × (captures ≡ Some text ∷ [])
Accepts answer ignore_case (RegExp (Ok engine)) text captures = answer engine text ≡ Some captures
Accepts answer ignore_case (RegExp (Err error)) text captures = ⊥

-- The text is the prefix of the matcher, `middle` and the suffix, without overlap. Prefix and
-- suffix are compared by `IsSame`.
abbrev pub HasMiddle : {E : Type 0} → MatcherView E → List ℕ → (middle : List ℕ) → Type 0
HasMiddle matcher text middle =
    (front back : List ℕ) × (text ≡ front ++ middle ++ back)
    × IsSame matcher.ignore_case front matcher.prefix
    × IsSame matcher.ignore_case back matcher.suffix

-- The matcher matches the text with these captures: the text has its prefix and its suffix, and the
-- inner matcher accepts the text between them. `answer` is the result of an engine's value for a
-- text.
abbrev pub Matches : {E : Type 0} → (answer : E → List ℕ → Option Captures) → MatcherView E → List ℕ
    → Captures → Type 0
Matches answer matcher text captures =
    (middle : List ℕ) × HasMiddle matcher text middle
    × Accepts answer matcher.ignore_case matcher.inner middle captures

-- The last argument is a result of the matcher for the text: captures with which it matches the
-- text, or None if it does not match the text. `answer` is the result of an engine's value for a
-- text.
abbrev pub Returns : {E : Type 0} → (answer : E → List ℕ → Option Captures) → MatcherView E → List ℕ
    → Option Captures → Type 0
Returns answer matcher text (Some captures) = Matches answer matcher text captures
Returns answer matcher text None = (captures : Captures) → ¬ Matches answer matcher text captures

-- The matcher matches the text, with some captures. `answer` is the result of an engine's value for
-- a text.
abbrev pub IsMatched : {E : Type 0} → (answer : E → List ℕ → Option Captures) → MatcherView E
    → List ℕ → Type 0
IsMatched answer matcher text = (captures : Captures) × Matches answer matcher text captures

-- ---- when memory is allocated

-- The inner matcher is an engine's value.
abbrev pub HoldsEngine : {E : Type 0} → InnerView E → Type 0
HoldsEngine (RegExp (Ok engine)) = Unit {0}
HoldsEngine other = ⊥

-- The inner matcher is a single capture.
abbrev pub CapturesOne : {E : Type 0} → InnerView E → Type 0
CapturesOne (SingleCapture filter allow_empty) = Unit {0}
CapturesOne other = ⊥

-- The matcher calls its engine for the text: it has one, and the text begins with the prefix and
-- ends with the suffix, without overlap.
abbrev pub CallsEngine : {E : Type 0} → MatcherView E → List ℕ → Type 0
CallsEngine matcher text =
    (middle : List ℕ) × HasMiddle matcher text middle × HoldsEngine matcher.inner

-- Matching the text may allocate: the matcher calls an engine, or makes a list of one capture.
abbrev pub MayRunOutOfMemory : {E : Type 0} → (answer : E → List ℕ → Option Captures)
    → MatcherView E → List ℕ → Type 0
MayRunOutOfMemory answer matcher text =
    CallsEngine matcher text ⊎ (CapturesOne matcher.inner × IsMatched answer matcher text)

-- ---- agreeing with the parts

-- The result for a text is what the parts mean: captures with which they match the text, or None if
-- they do not match it.
abbrev pub Agrees : OptionsView → List PartView → List ℕ → Option Captures → Type 0
Agrees options parts text (Some captures) = PartsMean options parts text captures
Agrees options parts text None = (captures : Captures) → ¬ PartsMean options parts text captures

-- Each engine's value that is made (`IsMade`) from the regular expression of parts, none of them
-- custom, with the flag `u` alone, returns (`answer`) what the parts mean, for every text.
abbrev pub ValuesAgreeWithParts : {E : Type 0} → (IsMade : E → (regexp flags : List ℕ) → Type 0)
    → (answer : E → List ℕ → Option Captures) → Type 0
ValuesAgreeWithParts {E} IsMade answer =
    (options : OptionsView) (parts : List PartView) (value : E) → AreGenerated parts →
    IsMade value (regexp_text options parts) (codes "u") →
    (text : List ℕ) → Agrees options parts text (answer value text)

-- If the inner matcher is an engine's value, `Is` holds of the value and of the parts that are left
-- to it between the removed fixed texts. An engine's error fails this.
abbrev pub IsOfMiddle : {E : Type 0} → (Is : E → (middle : List PartView) → Type 0) → List PartView
    → InnerView E → Type 0
IsOfMiddle Is parts (RegExp (Ok engine)) =
    (front : Option PartView) × (middle : List PartView)
    × (back : Option PartView) × AreStripped parts front middle back
    × Is engine middle
IsOfMiddle Is parts (RegExp (Err error)) = ⊥
IsOfMiddle Is parts inner = Unit {0}

-- If the inner matcher is an engine's value, the value follows the regular expression of the parts
-- that are left to it. An engine's error fails this.
abbrev pub FollowsMiddle : {E : Type 0} → (answer : E → List ℕ → Option Captures) → OptionsView
    → List PartView → InnerView E → Type 0
FollowsMiddle answer options parts inner =
    IsOfMiddle (λ engine middle. Follows (regexp_text options middle) (answer engine)) parts inner

-- If the inner matcher is an engine's value, the value returns what the parts that are left to it
-- mean, for each text of characters. An engine's error fails this.
abbrev pub AgreesInMiddle : {E : Type 0} → (answer : E → List ℕ → Option Captures) → OptionsView
    → List PartView → InnerView E → Type 0
AgreesInMiddle answer options parts inner =
    IsOfMiddle (λ engine middle.
    (text : List ℕ) → IsTrue (all_scalars text)
    → Agrees options middle text (answer engine text)) parts inner

-- `Is` holds of each text of characters without line feed and each result of the matcher for it.
-- `answer` is the result of an engine's value for a text.
abbrev pub EachResultIs : {E : Type 0} → (answer : E → List ℕ → Option Captures) → MatcherView E
    → (Is : (text : List ℕ) → Option Captures → Type 0) → Type 0
EachResultIs answer matcher Is =
    (text : List ℕ) (result : Option Captures) → IsTrue (lacks line_feed text)
    → IsTrue (all_scalars text) →
    Returns answer matcher text result → Is text result

-- If no part is custom, case is kept, and the matcher's engine, if it has one, accepted the regular
-- expression of the parts that are left to it and follows it, then the matcher returns what the
-- parts mean, for each text of characters without line feed.
abbrev pub ReturnsByMeaning : {E : Type 0} → (answer : E → List ℕ → Option Captures) → OptionsView
    → List PartView → MatcherView E → Type 0
ReturnsByMeaning answer options parts matcher =
    AreGenerated parts
    → options.ignore_case ≡ false
    → FollowsMiddle answer options parts matcher.inner
    →
    EachResultIs answer matcher (Agrees options parts)
