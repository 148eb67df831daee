-- Statements of the laws on what custom regular expressions and parts match and capture, and on
-- what engines and matchers return.
use Rattle.std.specs.Prelude.{⊤, ◌≡◌, ◌↔◌, ℕ, false, List, ◌++◌, length, codes, Option, IfSome, IsSome, IsTrue}
use Rattle.std.specs.Str.{all_scalars}
use Rattle.regex_syntax.specs.Brackets.{join}
use Rattle.regex_syntax.specs.Grammar.{Names, branches}
use Rattle.regex_syntax.specs.Verdict.{default_config}
use Rattle.regex_hir.specs.Meaning.{alt_all}
use Rattle.urlpattern_matcher.specs.Components.{ComponentView, IsComponentOf, IsEngineOf}
use Rattle.urlpattern_matcher.specs.FirstWays.{Keeping, Acceptance}
use Rattle.urlpattern_printing.specs.Generated.{AreGenerated}
use Rattle.urlpattern_matcher.specs.declared.regexp.RegExp.{Ghosts as Engine}
use Rattle.urlpattern_expressions.specs.Expressions.{ExpressionMatches, MatchesWhole, is_self_contained}
use Rattle.urlpattern_expressions.specs.MatchedPartTexts.{AllCaptureNothing, AllStandAlone, PartsMatch}
use Rattle.urlpattern_expressions.specs.PartCaptures.{IsCapturedByParts, PartsCapture}
use Rattle.urlpattern_meaning.specs.FirstResults.{AcceptedText}
use Rattle.urlpattern_meaning.specs.Matching.{EachResultIs, IsMadeOf, MatcherView}
use Rattle.urlpattern_meaning.specs.PartMeaning.{Captures, PartsMean}
use Rattle.urlpattern_syntax.specs.{Options.OptionsView, Parts.PartView, RegexpText.group_names, RegexpText.regexp_text}

-- In a group, with any text before and after, the grammar reads an expression that stands alone up
-- to the closing parenthesis, as a pattern that matches the texts of the expression, unless it
-- reads nothing.
abbrev pub ReadsInGroups : Type 0
ReadsInGroups =
    (expression rest : List ℕ) (steps : ℕ) (names : Names) → IsTrue (is_self_contained expression) →
    IfSome (branches steps (record {
      config = default_config;
      names = names;
      text = expression ++ (codes ")" ++ rest);
    })) (λ (patterns, end).
    (end.text ≡ codes ")" ++ rest)
    ×
    ((text : List ℕ) → IsTrue (all_scalars text)
    → MatchesWhole (join alt_all patterns).value text ↔ ExpressionMatches expression text))

-- Parts without a custom one match a text, as `PartsMatch` says, exactly if they mean the text with
-- some captures.
abbrev pub PartsMatchMeanings : Type 0
PartsMatchMeanings =
    (options : OptionsView) (parts : List PartView) (text : List ℕ) → AreGenerated parts →
    PartsMatch options parts text ↔ ((captures : Captures) × PartsMean options parts text captures)

-- Parts without a custom one have captures in a text, as `PartsCapture` says, exactly if they mean
-- the text with these captures.
abbrev pub PartsCaptureMeanings : Type 0
PartsCaptureMeanings =
    (options : OptionsView) (parts : List PartView) (text : List ℕ) (captures : Captures)
    → AreGenerated parts
    →
    PartsCapture options parts text captures ↔ PartsMean options parts text captures

-- The captures that parts have in a text are as many as the names of their groups.
abbrev pub CapturesAreAsNames : Type 0
CapturesAreAsNames =
    (options : OptionsView) (parts : List PartView) (text : List ℕ) (captures : Captures)
    → PartsCapture options parts text captures
    →
    length captures ≡ length (group_names parts)

-- `result` is captures, not `None`, exactly if the parts match the text.
abbrev pub IsSomeIfMatched : OptionsView → List PartView → (text : List ℕ) → Option Captures
    → Type 0
IsSomeIfMatched options parts text result = IsSome result ↔ PartsMatch options parts text

-- A value that the engine made of the regular expression of parts returns captures for a text
-- exactly if the parts match the text. Premises: `Keeps` holds of the flags, and custom expressions
-- stand alone.
abbrev pub ValuesReturnIfMatched : {E : Type 0} → Engine E → Keeping → Type 0
ValuesReturnIfMatched {E} engine Keeps =
    (options : OptionsView) (flags : List ℕ) (parts : List PartView) (value : E) → Keeps flags →
    AllStandAlone parts →
    engine.IsMade value (regexp_text options parts) flags →
    (text : List ℕ) → IsTrue (all_scalars text)
    → IsSomeIfMatched options parts text (engine.answer value text)

-- A value that the engine made of the regular expression of parts returns captures that the parts
-- have in the text, or `None` if they do not match. Premises: `Keeps` holds of the flags, and
-- custom expressions stand alone and capture nothing themselves.
abbrev pub ValuesCapture : {E : Type 0} → Engine E → Keeping → Type 0
ValuesCapture {E} engine Keeps =
    (options : OptionsView) (flags : List ℕ) (parts : List PartView) (value : E) → Keeps flags →
    AllStandAlone parts → AllCaptureNothing parts →
    engine.IsMade value (regexp_text options parts) flags →
    (text : List ℕ) → IsTrue (all_scalars text)
    → IsCapturedByParts options parts text (engine.answer value text)

-- The premises on a matcher: the engine made it of the parts, custom expressions stand alone, case
-- is kept, and `Accepted` says that the engine, where one is needed, accepted its regular
-- expression.
pub record HasMatcherPremises {E : Type 0} (engine : Engine E) (Accepted : Acceptance E)
    (options : OptionsView) (flags : List ℕ) (parts : List PartView) (matcher : MatcherView E) :
    Type 0 where
  pub is_made : IsMadeOf (IsEngineOf engine false flags) options parts matcher
  pub alone : AllStandAlone parts
  pub case_kept : options.ignore_case ≡ false
  pub took : Accepted options flags matcher.inner

-- A matcher made of parts, under the premises of `HasMatcherPremises`, returns captures for a text
-- without line feeds exactly if the parts match the text.
abbrev pub MatchersReturnIfMatched : {E : Type 0} → Engine E → Acceptance E → Type 0
MatchersReturnIfMatched {E} engine Accepted =
    (options : OptionsView) (flags : List ℕ) (parts : List PartView) (matcher : MatcherView E) →
    HasMatcherPremises engine Accepted options flags parts matcher →
    EachResultIs engine.answer matcher (IsSomeIfMatched options parts)

-- A matcher made of parts, under the premises of `HasMatcherPremises`, returns captures that the
-- parts have in a text without line feeds, or `None` if they do not match. Custom expressions
-- capture nothing themselves.
abbrev pub MatchersCapture : {E : Type 0} → Engine E → Acceptance E → Type 0
MatchersCapture {E} engine Accepted =
    (options : OptionsView) (flags : List ℕ) (parts : List PartView) (matcher : MatcherView E) →
    HasMatcherPremises engine Accepted options flags parts matcher → AllCaptureNothing parts →
    EachResultIs engine.answer matcher (IsCapturedByParts options parts)

-- The matcher of a component made of parts returns captures that the parts have in a text without
-- line feeds, or `None` if they do not match. Premises: custom expressions stand alone and capture
-- nothing themselves, case is kept, and the engine, where one is needed, accepted its regular
-- expression.
abbrev pub ComponentsCapture : {E : Type 0} → Engine E → Type 0
ComponentsCapture {E} engine =
    (options : OptionsView) (parts : List PartView) (component : ComponentView E)
    → IsComponentOf engine options parts component
    →
    AllStandAlone parts → AllCaptureNothing parts →
    options.ignore_case ≡ false
    → AcceptedText (λ value. ⊤) component.matcher.inner
    → EachResultIs engine.answer component.matcher (IsCapturedByParts options parts)
