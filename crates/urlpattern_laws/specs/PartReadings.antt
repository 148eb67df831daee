-- The parts of a pattern, and what the pattern matches. `answer` is what a value of an engine
-- returns for a text; a line is a text without line feeds.
use Rattle.std.specs.Prelude.{◌≡◌, ◌↔◌, ◌⊎◌, ℕ, true, false, List, MatchOption, Option, String}
use Rattle.std.specs.declared.alloc.Global.{Global}
use Rattle.urlpattern_matcher.specs.FirstWays.{ValuesReturnByFlags}
use Rattle.urlpattern_matcher.specs.declared.regexp.RegExp.{Ghosts as Engine}
use Rattle.urlpattern_init.specs.UrlTexts.{EachIsLine, IsLine}
use Rattle.urlpattern_init.specs.declared.init.UrlPatternInit.{UrlPatternInit}
use Rattle.urlpattern_inputs.specs.declared.options.UrlPatternOptions.{UrlPatternOptions}
use Rattle.urlpattern_engine.specs.GrammarReadings.{ExpressionsReturnAlike}
use Rattle.urlpattern_meaning.specs.Matching.{IsMatched, MatcherView}
use Rattle.urlpattern_meaning.specs.PartMeaning.{Captures}
use Rattle.urlpattern_pattern.specs.{ByText.ReturnsByItsText, KeptParts.KeepsPartsOf, Match.AreMatched, Match.IsMatchOf, Patterns.PatternView, Patterns.pattern_view}
use Rattle.urlpattern_matches.specs.ResultViews.{ResultView}
use Rattle.urlpattern_pattern.specs.UrlPatterns.{AreMadeOfParts, UrlPattern}
use Rattle.urlpattern_compare.specs.Comparing.{AreApart, AreSame, IsCaseKeptOrGenerated, IsCovered, IsKnown, IsParting, IsPatternOverlap, MeansAllOf, MeansIn, MatchesEveryLine, MatchesNoLine}
use Rattle.urlpattern_compare.specs.EqualParts.{AreEqualParts}
use Rattle.urlpattern_compare.specs.declared.pattern_parts.{Parting.Parting, PatternParts.PatternParts}
use Rattle.urlpattern_compare.specs.declared.pattern_parts.PatternOverlap.TheVariants.{Common}
use Rattle.urlpattern_syntax.specs.declared.parts.ComponentParts.{ComponentParts}
use Rattle.urlpattern_components.specs.declared.eight.ComponentName.{ComponentName}
use Rattle.urlpattern_components.specs.declared.eight.Eight.{Eight}
use Rattle.urlpattern_components.specs.Eight.{Texts, at}
use Rattle.urlpattern_syntax.specs.Text.{text_of}

-- ---- matching

-- `parts` say what the pattern matches: if the meaning of a component's parts is known, its matcher
-- matches a line exactly if the parts mean the line.
abbrev pub AreItsParts : {E : Type 0} → (answer : E → List ℕ → Option Captures) → PatternView E
    → PatternParts → Type 0
AreItsParts answer pattern parts =
    (name : ComponentName) → IsKnown (at parts.components name) → (text : List ℕ) → IsLine text →
    IsMatched answer (pattern name).matcher text ↔ MeansIn (at parts.components name) text

-- ---- laws

-- `matcher` matches each line that `other` matches.
abbrev pub MatchesEachLineOf : {E : Type 0} → (answer : E → List ℕ → Option Captures)
    → (matcher other : MatcherView E) → Type 0
MatchesEachLineOf answer matcher other =
    (text : List ℕ) → IsLine text → IsMatched answer other text → IsMatched answer matcher text

-- For each component for which both patterns have equal parts, whose meaning is not known,
-- `pattern` matches each line there that `asked` matches.
abbrev pub SameAreMatched : {E : Type 0} → (answer : E → List ℕ → Option Captures)
    → (pattern asked : PatternView E) → (parts asked_parts : PatternParts) → Type 0
SameAreMatched answer pattern asked parts asked_parts =
    (name : ComponentName) → ¬ IsKnown (at parts.components name)
    → AreSame (at parts.components name) (at asked_parts.components name) →
    MatchesEachLineOf answer (pattern name).matcher (asked name).matcher

-- A pattern that covers `asked` by their parts matches any eight lines that `asked` matches, if
-- `SameAreMatched` holds of components with equal parts.
abbrev pub CoveredAreMatched : {E : Type 0} → (answer : E → List ℕ → Option Captures) → Type 0
CoveredAreMatched {E} answer =
    (pattern asked : PatternView E) (parts asked_parts : PatternParts)
    → AreItsParts answer pattern parts
    → AreItsParts answer asked asked_parts →
    SameAreMatched answer pattern asked parts asked_parts →
    IsCovered parts asked_parts → (texts : Texts) → EachIsLine texts → AreMatched answer asked texts
    → AreMatched answer pattern texts

-- `component` covers `asked` by meaning: its parts mean each line, or each line that the parts of
-- `asked` mean.
abbrev pub IsCoveredByMeaning : (component asked : ComponentParts) → Type 0
IsCoveredByMeaning component asked = MatchesEveryLine component ⊎ MeansAllOf component asked

-- `pattern` covers `asked` by meaning: each of its components covers that of `asked`, or the parts
-- of a component of `asked` mean no line.
abbrev pub AreCoveredByMeaning : (pattern asked : PatternParts) → Type 0
AreCoveredByMeaning pattern asked =
    ((name : ComponentName) × MatchesNoLine (at asked.components name))
    ⊎ ((name : ComponentName)
    → IsCoveredByMeaning (at pattern.components name) (at asked.components name))

-- A pattern that covers `asked` by meaning matches any eight lines that `asked` matches.
abbrev pub CoveredByMeaningAreMatched : {E : Type 0} → (answer : E → List ℕ → Option Captures)
    → Type 0
CoveredByMeaningAreMatched {E} answer =
    (pattern asked : PatternView E) (parts asked_parts : PatternParts)
    → AreItsParts answer pattern parts
    → AreItsParts answer asked asked_parts →
    AreCoveredByMeaning parts asked_parts → (texts : Texts) → EachIsLine texts
    → AreMatched answer asked texts → AreMatched answer pattern texts

-- If both patterns have equal parts for a component, the meaning of the parts is known.
abbrev pub SameAreKnown : (pattern asked : PatternParts) → Type 0
SameAreKnown pattern asked =
    (name : ComponentName) → AreSame (at pattern.components name) (at asked.components name)
    → IsKnown (at pattern.components name)

-- A pattern that covers `asked` by their parts covers it by meaning, if the meaning of components
-- with equal parts is known.
abbrev pub KnownAreCoveredByMeaning : Type 0
KnownAreCoveredByMeaning =
    (pattern asked : PatternParts) → SameAreKnown pattern asked
    → IsCovered pattern asked
    → AreCoveredByMeaning pattern asked

-- Patterns that the engine made of their parts meet `SameAreMatched`, if any two values that the
-- engine made of one expression return the same results.
abbrev pub MadeAreMatched : {E : Type 0} → Engine E → Type 0
MadeAreMatched {E} engine = ExpressionsReturnAlike engine →
    (pattern asked : PatternView E) (parts asked_parts : PatternParts)
    → AreMadeOfParts engine parts pattern
    → AreMadeOfParts engine asked_parts asked →
    SameAreMatched engine.answer pattern asked parts asked_parts

-- Of two patterns that the engine made of equal parts, one matches any eight lines with the result
-- with which the other does, if each component keeps case or has no custom regular expression.
abbrev pub EqualAreMatched : {E : Type 0} → Engine E → Type 0
EqualAreMatched {E} engine =
    (pattern other : PatternView E) (parts others : PatternParts)
    → AreMadeOfParts engine parts pattern
    → AreMadeOfParts engine others other →
    AreEqualParts parts others
    → ((name : ComponentName) → IsCaseKeptOrGenerated (at parts.components name)) →
    (texts : Texts) (result : ComponentName → ResultView) → EachIsLine texts
    → IsMatchOf engine.answer other texts result
    → IsMatchOf engine.answer pattern texts result

-- `parts` say what the components that keep case match: if the meaning of such a component's parts
-- is known, its matcher matches a line exactly if the parts mean the line.
abbrev pub AreItsPartsWithCase : {E : Type 0} → (answer : E → List ℕ → Option Captures)
    → PatternView E → PatternParts → Type 0
AreItsPartsWithCase answer pattern parts =
    (name : ComponentName) → (pattern name).matcher.ignore_case ≡ false
    → IsKnown (at parts.components name) → (text : List ℕ) → IsLine text →
    IsMatched answer (pattern name).matcher text ↔ MeansIn (at parts.components name) text

-- The parts that the engine made a pattern of say what the pattern matches, as `AreItsParts` says.
abbrev pub OwnPartsMean : {E : Type 0} → Engine E → Type 0
OwnPartsMean {E} engine =
    (pattern : PatternView E) (parts : PatternParts) → AreMadeOfParts engine parts pattern
    → AreItsParts engine.answer pattern parts

-- The parts that the engine made a pattern of say what its components that keep case match, as
-- `AreItsPartsWithCase` says.
abbrev pub OwnPartsMeanWithCase : {E : Type 0} → Engine E → Type 0
OwnPartsMeanWithCase {E} engine =
    (pattern : PatternView E) (parts : PatternParts) → AreMadeOfParts engine parts pattern
    → AreItsPartsWithCase engine.answer pattern parts

-- If the engine says that it honours the flag `i`, it does: the values that it makes of parts
-- without custom ones return first ways by their flags.
abbrev pub DoesHonourCase : {E : Type 0} → Engine E → Type 0
DoesHonourCase engine = engine.case_honoured ≡ true → ValuesReturnByFlags engine

-- The parts that a compiled pattern keeps say what its components that keep case match, as
-- `AreItsPartsWithCase` says, if the pattern matches by its pattern texts.
abbrev pub KeptPartsMean : {E : Type 0} → Engine E → Type 0
KeptPartsMean {E} engine =
    (init : UrlPatternInit) (asked : UrlPatternOptions) (pattern : UrlPattern E)
    → ReturnsByItsText engine.answer init asked (pattern_view pattern)
    →
    (kept : KeepsPartsOf engine init asked pattern)
    → AreItsPartsWithCase engine.answer (pattern_view pattern) kept.parts

-- If the engine made two patterns of parts, with or without custom regular expressions, and
-- `pattern` covers `asked` by these parts, `pattern` matches any eight lines that `asked` matches.
abbrev pub CoveredByEngineAreMatched : {E : Type 0} → Engine E → Type 0
CoveredByEngineAreMatched {E} engine =
    (pattern asked : PatternView E) (parts asked_parts : PatternParts)
    → AreMadeOfParts engine parts pattern
    → AreMadeOfParts engine asked_parts asked →
    IsCovered parts asked_parts → (texts : Texts) → EachIsLine texts
    → AreMatched engine.answer asked texts → AreMatched engine.answer pattern texts

-- `texts` are the texts of `found`, where these are known, and texts that `pattern` matches in the
-- other components.
abbrev pub AreTextsWith : {E : Type 0} → (answer : E → List ℕ → Option Captures) → PatternView E
    → (found : Eight (Option (String Global))) → Texts → Type 0
AreTextsWith answer pattern found texts =
    (name : ComponentName)
    → MatchOption (at found name) (IsMatched answer (pattern name).matcher (at texts name))
    (λ text. at texts name ≡ text_of text)

-- The texts of a `Parting` show that `pattern` does not cover `asked`: `asked` matches them, with
-- any texts that it matches in the components without a known text, and `pattern` does not match
-- the text of the parting's component.
abbrev pub PartingsAreMatched : {E : Type 0} → (answer : E → List ℕ → Option Captures) → Type 0
PartingsAreMatched {E} answer =
    (pattern asked : PatternView E) (parts asked_parts : PatternParts) (parting : Parting)
    → AreItsParts answer pattern parts
    →
    AreItsParts answer asked asked_parts → IsParting parts asked_parts parting →
    (texts : Texts) → AreTextsWith answer asked parting.texts texts →
    AreMatched answer asked texts
    × ¬ IsMatched answer (pattern parting.component).matcher (at texts parting.component)

-- Two patterns match the common texts that are found by their parts, with any texts that `pattern`
-- matches in the components without a known text, if `SameAreMatched` holds of components with
-- equal parts.
abbrev pub CommonAreMatched : {E : Type 0} → (answer : E → List ℕ → Option Captures) → Type 0
CommonAreMatched {E} answer =
    (pattern other : PatternView E) (parts other_parts : PatternParts)
    (found : Eight (Option (String Global)))
    → AreItsParts answer pattern parts
    →
    AreItsParts answer other other_parts →
    SameAreMatched answer other pattern other_parts parts →
    IsPatternOverlap parts other_parts (Common found) →
    (texts : Texts) → EachIsLine texts → AreTextsWith answer pattern found texts →
    AreMatched answer pattern texts × AreMatched answer other texts

-- If the parts of a component are apart, meaning no common line, no eight lines are matched by both
-- patterns.
abbrev pub ApartMatchNothing : {E : Type 0} → (answer : E → List ℕ → Option Captures) → Type 0
ApartMatchNothing {E} answer =
    (pattern other : PatternView E) (parts other_parts : PatternParts) (name : ComponentName)
    → AreItsParts answer pattern parts
    →
    AreItsParts answer other other_parts
    → AreApart (at parts.components name) (at other_parts.components name)
    →
    (texts : Texts) → EachIsLine texts → AreMatched answer pattern texts
    → ¬ AreMatched answer other texts
