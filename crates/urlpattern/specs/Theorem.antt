-- The clauses of the main theorem. An encoding is any list of texts with their results. The first
-- way is the first of the ways in which a tree or parts match a text, where each choice is tried in
-- order of preference.
use Rattle.std.specs.Prelude.{⊤, ℕ, false, List, Option}
use Rattle.urlpattern_matcher.specs.{Components.FlagsAgree, Components.IsEngineOf, Regexes.regex_engine, FirstWays.EachReturnsFirst}
use Rattle.urlpattern_matcher.specs.declared.regexp.RegExp.{Ghosts as Engine}
use Rattle.urlpattern_laws.specs.LawsOfTexts.{CapturesAreAsNames, MatchersCapture}
use Rattle.urlpattern_pattern.specs.ByText.{AcceptedAlone}
use Rattle.urlpattern_laws.specs.LawsOfWays.{FirstWaysAreOfTrees, MatchersReturnFirstOfParts}
use Rattle.urlpattern_engine.specs.PatternRegexps.{pattern_engine}
use Rattle.urlpattern_meaning.specs.{Dialect.IsOnlyTreeOf, Dialect.Items, FirstResults.ReturnsByFirstWay, FirstResults.AcceptedText}
use Rattle.urlpattern_meaning.specs.PartMeaning.{AreGenerated, Captures}
pub use Rattle.urlpattern_meaning.specs.LawsOfMeaning.{CapturesHaveNames, FirstWayIsOne, TreesMeanTheParts}
use Rattle.urlpattern_meaning.specs.LawsOfReading.{OfPartsThatWereRead, OutcomesAreOne, OutcomesLackOnlyResults, UnderEachList}
use Rattle.urlpattern_meaning.specs.Matching.{ReturnsByMeaning, IsMadeOf, MatcherView}
use Rattle.urlpattern_meaning.specs.RoundTrip.{IsNotRejected, ReadsAsJoined, ReadsOnlyAsJoined}
use Rattle.urlpattern_laws.specs.PatternLaws.{TestsAgree, TestsAreOne}
use Rattle.urlpattern_syntax.specs.{Options.OptionsView, Parts.PartView, RegexpText.regexp_text}

-- Under each encoding, a text has an outcome, parts or an error, unless parsing it needs the
-- encoding of a text for which the encoding has no result. It has at most one outcome if the
-- encoding has at most one result for each text.
abbrev pub OneReading : Type 0
OneReading = UnderEachList (λ encoding. OutcomesLackOnlyResults encoding × OutcomesAreOne encoding)

-- The regular expression of parts without custom expressions has exactly one syntax tree.
abbrev pub OneTree : Type 0
OneTree = (options : OptionsView) (parts : List PartView) →
    AreGenerated parts → (tree : Items) × IsOnlyTreeOf (regexp_text options parts) tree

-- A matcher made from parts without custom expressions returns what the parts mean for a text
-- without line feed, if case is kept and an engine that the matcher calls follows its regular
-- expression.
abbrev pub MatchersReturnTheMeaning : {E : Type 0} → Engine E → Type 0
MatchersReturnTheMeaning {E} engine =
    (options : OptionsView) (flags : List ℕ) (parts : List PartView) (matcher : MatcherView E) →
    IsMadeOf (IsEngineOf engine false flags) options parts matcher
    → ReturnsByMeaning engine.answer options parts matcher

-- A matcher made from parts without custom expressions returns the captures of the first way of
-- their tree for a text without line feed, if case is kept and an engine that the matcher calls
-- returns the first way of its own expression.
abbrev pub MatchersReturnTheFirstWay : {E : Type 0} → Engine E → Type 0
MatchersReturnTheFirstWay {E} engine =
    (options : OptionsView) (flags : List ℕ) (parts : List PartView) (matcher : MatcherView E) →
    IsMadeOf (IsEngineOf engine false flags) options parts matcher
    → ReturnsByFirstWay engine.answer options parts matcher

-- A matcher made by `regex::Regex` from parts without custom expressions returns the first way,
-- which is what the parts mean, for a text without line feed, if case is kept and `regex` accepted
-- the expression where one was needed.
abbrev pub DefaultEngineReturnsTheFirstWay : Type 0
DefaultEngineReturnsTheFirstWay =
    EachReturnsFirst regex_engine (λ options flags. AcceptedText (λ regex. ⊤))

-- A matcher made by `PatternRegexp` from parts without custom expressions returns the first way,
-- which is what the parts mean, for a text without line feed, if case is kept, without any premise
-- on the engine.
abbrev pub PatternEngineReturnsTheFirstWay : Type 0
PatternEngineReturnsTheFirstWay =
    EachReturnsFirst pattern_engine (λ options flags inner. FlagsAgree options flags)

-- A matcher made by `regex::Regex` or by `PatternRegexp` returns what parts with custom expressions
-- capture, one capture for each name, or `None` where the parts do not match, if case is kept and
-- the expressions stand alone and capture nothing themselves. An engine that is needed has to
-- accept the regular expression.
abbrev pub CustomPartsAreMatched : Type 0
CustomPartsAreMatched =
    MatchersCapture regex_engine (λ options flags. AcceptedText (λ regex. ⊤))
    × MatchersCapture pattern_engine AcceptedAlone
    × CapturesAreAsNames

-- When several captures are possible, a matcher made by `regex::Regex` or by `PatternRegexp`
-- returns those of the first way of the parts, which tries the choices of a custom expression in
-- the order of the grammar that reads the expression by itself. Without a custom part this is the
-- first way of their tree.
abbrev pub CustomPartsAreMatchedByTheFirstWay : Type 0
CustomPartsAreMatchedByTheFirstWay =
    MatchersReturnFirstOfParts regex_engine (λ options flags. AcceptedText (λ regex. ⊤))
    × MatchersReturnFirstOfParts pattern_engine AcceptedAlone × FirstWaysAreOfTrees

-- The printed pattern of parts that were read under the standard's options reads as the parts,
-- neighbouring plain fixed texts joined, under each encoding that keeps their texts, provided that
-- no fixed text is empty and no text has a tab or a line end.
abbrev pub PrintedReadsBack : Type 0
PrintedReadsBack = OfPartsThatWereRead ReadsAsJoined

-- The printed pattern of parts, under the premises of `PrintedReadsBack`, reads as no other parts
-- than the joined ones, and is not rejected.
abbrev pub PrintedReadsAsNothingElse : Type 0
PrintedReadsAsNothingElse = OfPartsThatWereRead (λ text options encoding parts.
    ReadsOnlyAsJoined text options encoding parts × IsNotRejected text options encoding parts)

-- A pattern has a match on an input exactly if the input has eight texts and each component's
-- matcher accepts its own. An input that has a match may also count as one without a match only if
-- it is longer than those that `url` is sure to accept.
abbrev pub ExecutesByMatchers : {E : Type 0} → (answer : E → List ℕ → Option Captures) → Type 0
ExecutesByMatchers answer = TestsAgree answer × TestsAreOne answer
