-- The output of `filter` for its arguments and for the lines that it reads. Arguments and texts are
-- bytes. `input` is what the reader has left, and `old` and `new` are the output before and after,
-- as far as they are known.
use Rattle.std.specs.Borrow.{Bor}
use Rattle.std.specs.Prelude.{◌≡◌, ◌++◌, ◌∷◌, ℕ, Bool, true, false, List, [], codes, map, Option, option_copied, unwrap_or}
use Rattle.std.specs.List.{AllZip}
use Rattle.std.specs.Str.{chars}
use Rattle.urlpat_matching.specs.GivenPatterns.{IsPatternGiven}
use Rattle.urlpat_matching.specs.GroupLines.{group_bytes}
use Rattle.urlpat_matching.specs.Groups.{IsOwnGroup, LacksGroup}
use Rattle.urlpat_matching.specs.MatchJson.{IsMatchJson}
use Rattle.urlpat_matching.specs.PatternWords.{IsPatternOf}
use Rattle.urlpat_matching.specs.Tables.{table_entries}
use Rattle.urlpat_matching.specs.Texts.{texts_view}
use Rattle.urlpat_matching.specs.declared.answers.Verdict.{Verdict}
use Rattle.urlpat_matching.specs.declared.answers.Verdict.TheVariants as verdicts
use Rattle.urlpat_matching.specs.declared.command.AskedShape.{AskedShape}
use Rattle.urlpat_matching.specs.declared.command.AskedShape.TheVariants as asks
use Rattle.urlpat_matching.specs.declared.command.FilterArguments.{FilterArguments}
use Rattle.urlpat_matching.specs.declared.command.GivenPatterns.{GivenPatterns}
use Rattle.urlpat_matching.specs.declared.command.GivenPatterns.TheVariants as many
use Rattle.urlpat_matching.specs.declared.command.Shape.{Shape}
use Rattle.urlpat_matching.specs.declared.command.Shape.TheVariants as shapes
use Rattle.urlpat_matching.specs.declared.given_pattern.GivenPattern.{GivenPattern}
use Rattle.urlpat_tables.specs.FirstRules.{FiltersFields, IsAnswered, Rules, passed_verdict}
use Rattle.urlpat_tables.specs.declared.first_rule.Unmatched.{Unmatched}
use Rattle.urlpat_tables.specs.declared.first_rule.Unmatched.TheVariants as unmatched
use Rattle.urlpattern.specs.Patterns.{PatternView, pattern_view}
use Rattle.urlpattern.specs.ResultViews.{ResultView}
use Rattle.urlpattern.specs.UrlPattern.{UrlPattern}
use Rattle.urlpattern_canonical.specs.BaseUrls.{base_view}
use Rattle.urlpattern_components.specs.declared.eight.ComponentName.{ComponentName}
use Rattle.urlpattern_engine.specs.declared.pattern_regexp.PatternRegexp.{PatternRegexp}

-- What is printed of a line that matches and is selected: the line, a line with the capture of a
-- group, a line of JSON, or nothing.
abbrev pub IsShown : Shape → (ComponentName → ResultView) → (line written : List ℕ) → Type 0
IsShown shapes.Line result line written = written ≡ line
IsShown shapes.Count result line written = written ≡ []
IsShown (shapes.Group component name) result line written =
    written ≡ unwrap_or (group_bytes ((result component).group (chars name.now))) []
    ++ codes "\n"
IsShown shapes.Json result line written = IsMatchJson result written

-- What is printed of a line that does not match and is selected: the line, unless lines are
-- counted.
abbrev pub text_left : AskedShape → (line : List ℕ) → List ℕ
text_left asks.Line line = line
text_left asked line = []

-- The verdict on a line that matches, and what is written for it. The line is selected unless the
-- selection is inverted.
abbrev pub AnswersMatched : (inverted : Bool) → Shape → (ComponentName → ResultView)
    → (line : List ℕ) → Verdict → (written : List ℕ) → Type 0
AnswersMatched true shape result line verdict written =
    (verdict ≡ verdicts.Passed) × (written ≡ [])
AnswersMatched false shape result line verdict written =
    (verdict ≡ verdicts.Selected) × IsShown shape result line written

-- The verdict on a line that no pattern matches and that is selected.
abbrev pub selected_verdict : Unmatched → Verdict
selected_verdict unmatched.Rejected = verdicts.Rejected
selected_verdict unmatched.NoUrl = verdicts.SelectedNoUrl
selected_verdict unmatched.NoMatch = verdicts.Selected

-- The verdict on a line that no pattern matches, and what is written for it. The line is selected
-- if the selection is inverted.
abbrev pub LeavesLine : (inverted : Bool) → AskedShape → Unmatched → (line : List ℕ) → Verdict
    → (written : List ℕ) → Type 0
LeavesLine true asked why line verdict written =
    (verdict ≡ selected_verdict why) × (written ≡ text_left asked line)
LeavesLine false asked why line verdict written =
    (verdict ≡ passed_verdict why) × (written ≡ [])

-- ---- the group that is printed

-- `shape` is what is printed of a selected line, as it is asked for. A group is one of the pattern.
abbrev pub IsShapeOf : PatternView PatternRegexp → AskedShape → Shape → Type 0
IsShapeOf compiled asks.Line shape = shape ≡ shapes.Line
IsShapeOf compiled asks.Count shape = shape ≡ shapes.Count
IsShapeOf compiled (asks.Group word) shape =
    (component : ComponentName) × (name : Bor (List ℕ))
    × IsOwnGroup compiled word.now component name.now × (shape ≡ shapes.Group component name)
IsShapeOf compiled asks.Json shape = shape ≡ shapes.Json

-- A group is asked for by this word, which names none of the pattern.
abbrev pub IsMissingGroup : PatternView PatternRegexp → AskedShape → (word : Bor (List ℕ)) → Type 0
IsMissingGroup compiled asked word = (asked ≡ asks.Group word) × LacksGroup compiled word.now

-- The message that a word names no group of the pattern.
abbrev pub missing_group_line : (word : List ℕ) → List ℕ
missing_group_line word =
    codes "urlpat: no group of the pattern has the name `" ++ word
    ++ codes "`, or several have it\n"

-- ---- the patterns

-- The pattern that is given is appended, with what is printed of a line that it matches.
abbrev pub AddsPattern : (ignores : Bool) → GivenPattern → FilterArguments → (old new : Rules Shape)
    → Type 0
AddsPattern ignores given asked old new =
    (pattern : UrlPattern PatternRegexp) × (shape : Shape)
    × IsPatternGiven ignores given (option_copied asked.lines.base) (pattern_view pattern)
    × IsShapeOf (pattern_view pattern) asked.shape shape × (new ≡ old ++ (pattern, shape) ∷ [])

-- The text is compiled to the pattern, and `rule.1` is what is printed of a line that it matches.
abbrev pub IsTextRule : (ignores : Bool) → FilterArguments → (text : List ℕ)
    → (rule : UrlPattern PatternRegexp × Shape) → Type 0
IsTextRule ignores asked text rule =
    IsPatternOf ignores text (option_copied asked.lines.base) (pattern_view rule.0)
    × IsShapeOf (pattern_view rule.0) asked.shape rule.1

-- The patterns of texts are appended, in order.
abbrev pub AddsTexts : (ignores : Bool) → FilterArguments → (texts : List (List ℕ))
    → (old new : Rules Shape) → Type 0
AddsTexts ignores asked texts old new =
    (more : Rules Shape) × (new ≡ old ++ more) × AllZip (IsTextRule ignores asked) texts more

-- The texts are the patterns of the tables of files, in order. `Has` says which file has which
-- table.
abbrev pub AreTextsIn : (Has : (name table : List ℕ) → Type 0) → (files texts : List (List ℕ))
    → Type 0
AreTextsIn Has [] texts = texts ≡ []
AreTextsIn Has (file ∷ files) texts =
    (table : List ℕ) × (others : List (List ℕ)) × Has file table
    × (texts ≡ map (λ entry. entry.pattern) (table_entries table) ++ others)
    × AreTextsIn Has files others

-- The patterns of the tables of files are appended, in order.
abbrev pub AddsFiles : (ignores : Bool) → FilterArguments → (Has : (name table : List ℕ) → Type 0)
    → (files : List (List ℕ)) → (old new : Rules Shape) → Type 0
AddsFiles ignores asked Has files old new =
    (texts : List (List ℕ)) × AreTextsIn Has files texts × AddsTexts ignores asked texts old new

-- The patterns are those that are given: one, or those of words and then those of the tables of
-- files.
abbrev pub AreGiven : (ignores : Bool) → (Has : (name table : List ℕ) → Type 0) → GivenPatterns
    → FilterArguments → Rules Shape → Type 0
AreGiven ignores Has (many.One given) asked patterns = AddsPattern ignores given asked [] patterns
AreGiven ignores Has (many.Several words files) asked patterns =
    (first : Rules Shape) × AddsTexts ignores asked (texts_view words.now) [] first
    × AddsFiles ignores asked Has (texts_view files.now) first patterns

-- ---- the output

-- Whether lines are counted in place of being printed.
abbrev pub counts : AskedShape → Bool
counts asks.Count = true
counts asked = false

-- `filter` writes its output for the lines of the reader by the patterns that are asked for, and
-- ends with the status. The output and the status are known if the contents of the reader are.
abbrev pub FiltersLines : (ignores : Bool) → (Has : (name table : List ℕ) → Type 0)
    → FilterArguments → (status : ℕ) → (input old new : Option (List ℕ)) → Type 0
FiltersLines ignores Has asked status input old new =
    (patterns : Rules Shape) × AreGiven ignores Has asked.patterns asked patterns
    × FiltersFields (λ header written. written ≡ text_left asked.shape header)
    (IsAnswered (λ pattern. AnswersMatched asked.inverted) (LeavesLine asked.inverted asked.shape)
    patterns (base_view (option_copied asked.lines.base))) asked.lines (counts asked.shape) status
    input old new
