-- The output of `match` and `first` for their arguments. Texts are bytes. `old` and `new` are the
-- output before and after, as far as it is known.
use Rattle.std.specs.Prelude.{◌≡◌, ◌⊎◌, ◌++◌, ℕ, Bool, true, false, List, codes, decimal, Option, Some, String, string_bytes, slice_get, take, MatchOption, option_copied}
use Rattle.std.specs.List.{AllZip}
use Rattle.std.specs.declared.alloc.Global.{Global}
use Rattle.std.specs.Io.KnownBytes.{Appends}
use Rattle.url.specs.Parts.{Parts}
use Rattle.urlpat_matching.specs.Texts.{texts_view}
use Rattle.urlpat_matching.specs.declared.command.{FirstArguments.FirstArguments, Flags.Flags, MatchArguments.MatchArguments}
use Rattle.urlpat_matching.specs.GroupLines.{AreLines, all_named_results}
use Rattle.urlpat_matching.specs.MatchTexts.{HaveNoMatchUnder, IsMatchText, IsUnmatched}
use Rattle.urlpat_matching.specs.PatternWords.{IsPatternOf, RejectsPatternOf}
use Rattle.urlpat_matching.specs.declared.exit_status.TheConstants.{DONE, NO_MATCH}
use Rattle.urlpat_commands.specs.FirstJson.{IsFirstJson}
use Rattle.urlpattern.specs.Errors.{ErrorView}
use Rattle.urlpattern.specs.FirstMatch.{IsFirstMatch}
use Rattle.urlpattern.specs.ResultViews.{ResultView}
use Rattle.urlpattern.specs.Patterns.{PatternView}
use Rattle.urlpattern_canonical.specs.BaseUrls.{IsRejectedText, IsUrlOf, base_view}
use Rattle.urlpattern_components.specs.declared.eight.ComponentName.{ComponentName}
use Rattle.urlpattern_engine.specs.PatternRegexps.{pattern_result}
use Rattle.urlpattern_engine.specs.declared.pattern_regexp.PatternRegexp.{PatternRegexp}
use Rattle.urlpattern_init.specs.declared.init.UrlPatternMatchInput.TheVariants as match_inputs

-- The line that says which pattern is the first to match, by its index.
abbrev pub first_line : (index : ℕ) → List ℕ
first_line index = codes "match " ++ decimal index ++ codes "\n"

-- The text that is printed if there is no match.
abbrev pub no_match_text : (json : Bool) → List ℕ
no_match_text true = codes "null\n"
no_match_text false = codes "no match\n"

-- ---- the captures of the first match

-- The constructor strings `texts` with the base URL `base` are compiled to the patterns, in order.
abbrev pub ArePatterns : (ignores : Bool) → (texts : List (List ℕ))
    → (base : Option (List ℕ)) → List (PatternView PatternRegexp) → Type 0
ArePatterns ignores texts base patterns =
    AllZip (λ text pattern. IsPatternOf ignores text base pattern) texts patterns

-- Some constructor string of `texts` is rejected with this error, and the ones before it are
-- compiled.
pub record RejectsOneOf (ignores : Bool) (texts : List (List ℕ)) (base : Option (List ℕ))
    (error : ErrorView) : Type 0 where
  pub index : ℕ
  pub text : List ℕ
  pub earlier : List (PatternView PatternRegexp)
  pub is_there : slice_get texts index ≡ Some text
  pub are_compiled : ArePatterns ignores (take index texts) base earlier
  pub refuses : RejectsPatternOf ignores text base error

-- `text` is what is printed of the first match: JSON, or a line with the index of its pattern and a
-- line for each group.
abbrev pub ShowsFirst : (json : Bool) → (index : ℕ) → (ComponentName → ResultView)
    → (text : List ℕ) → Type 0
ShowsFirst true index result text = IsFirstJson index result text
ShowsFirst false index result text =
    (lines : List ℕ) × AreLines (all_named_results result) lines
    × (text ≡ first_line index ++ lines)

-- A pattern of the list is the first that matches the input, a URL under the base URL `base`, and
-- `text` is what is printed of the match.
pub record IsFirstTextBy (json : Bool) (compiled : List (PatternView PatternRegexp))
    (input : List ℕ) (base : Option (List ℕ)) (text : List ℕ) : Type 0 where
  pub url : Parts
  pub index : ℕ
  pub result : ComponentName → ResultView
  pub is_url : IsUrlOf input base url
  pub is_first : IsFirstMatch pattern_result compiled (match_inputs.Url url) (Some (index, result))
  pub shows : ShowsFirst json index result text

-- The constructor strings `patterns` are compiled, and `text` is what is printed of the first match
-- of the input.
abbrev pub IsFirstMatchText : Flags → (patterns : List (List ℕ)) → (input : List ℕ)
    → (base : Option (List ℕ)) → (text : List ℕ) → Type 0
IsFirstMatchText flags patterns input base text =
    (compiled : List (PatternView PatternRegexp))
    × ArePatterns flags.ignore_case patterns base compiled
    × IsFirstTextBy flags.json compiled input base text

-- No pattern of the list matches the input: the input is not a URL under the base URL, or may be
-- too long for `url`, or no pattern has a match on the URL.
abbrev pub IsUnmatchedByAll : (compiled : List (PatternView PatternRegexp)) → (input : List ℕ)
    → (base : Option (List ℕ)) → Type 0
IsUnmatchedByAll compiled input base =
    IsRejectedText input base ⊎ HaveNoMatchUnder compiled input (base_view base)

-- The constructor strings `patterns` are compiled to patterns, none of which matches the input.
abbrev pub IsUnmatchedByEach : (ignores : Bool) → (patterns : List (List ℕ))
    → (input : List ℕ) → (base : Option (List ℕ)) → Type 0
IsUnmatchedByEach ignores patterns input base =
    (compiled : List (PatternView PatternRegexp)) × ArePatterns ignores patterns base compiled
    × IsUnmatchedByAll compiled input base

-- `found` is what is printed of the first match of the input by the patterns to which the
-- constructor strings `patterns` are compiled. `None`: no pattern matches.
abbrev pub FindsFirst : Flags → (patterns : List (List ℕ)) → (input : List ℕ)
    → (base : Option (List ℕ)) → Option (String Global) → Type 0
FindsFirst flags patterns input base found =
    MatchOption found (IsUnmatchedByEach flags.ignore_case patterns input base) (λ text.
    IsFirstMatchText flags patterns input base (string_bytes text))

-- `found` is what is printed of the first match of the input by compiled patterns. `None`: no
-- pattern matches.
abbrev pub FindsFirstBy : (json : Bool) → List (PatternView PatternRegexp)
    → (input : List ℕ) → (base : Option (List ℕ)) → Option (String Global) → Type 0
FindsFirstBy json compiled input base found =
    MatchOption found (IsUnmatchedByAll compiled input base) (λ text.
    IsFirstTextBy json compiled input base (string_bytes text))

-- ---- output

-- The output and the exit status of a command that looks for a match: `Matched` holds, with status
-- 0, or `Unmatched` holds, and the output says that there is no match, with status 1.
abbrev pub AnswersMatch : (json : Bool) → (Matched Unmatched : Type 0)
    → (text : List ℕ) → (status : ℕ) → Type 0
AnswersMatch json Matched Unmatched text status =
    (Matched × (status ≡ 0)) ⊎ (Unmatched × (text ≡ no_match_text json) × (status ≡ 1))

-- The output and the exit status of `match` for its arguments.
abbrev pub IsMatchAnswer : Flags → MatchArguments → (text : List ℕ) → (status : ℕ) → Type 0
IsMatchAnswer flags asked text status =
    AnswersMatch flags.json
    (IsMatchText flags asked.pattern asked.input.now (option_copied asked.base) text)
    (IsUnmatched flags.ignore_case asked.pattern asked.input.now (option_copied asked.base))
    text status

-- The output and the exit status of `first` for its arguments.
abbrev pub IsFirstAnswer : Flags → FirstArguments → (text : List ℕ) → (status : ℕ) → Type 0
IsFirstAnswer flags asked text status =
    AnswersMatch flags.json
    (IsFirstMatchText flags (texts_view asked.patterns.now) asked.input.now
    (option_copied asked.base) text)
    (IsUnmatchedByEach flags.ignore_case (texts_view asked.patterns.now) asked.input.now
    (option_copied asked.base)) text status

-- The output of `match` is printed.
abbrev pub PrintsMatch : Flags → MatchArguments → (status : ℕ) → (old new : Option (List ℕ))
    → Type 0
PrintsMatch flags asked status old new =
    (text : List ℕ) × IsMatchAnswer flags asked text status × Appends old new text

-- The output of `first` is printed.
abbrev pub PrintsFirst : Flags → FirstArguments → (status : ℕ) → (old new : Option (List ℕ))
    → Type 0
PrintsFirst flags asked status old new =
    (text : List ℕ) × IsFirstAnswer flags asked text status × Appends old new text

-- `match` has an output. Whether it is printed is not said.
abbrev pub IsMatchAnswered : Flags → MatchArguments → Type 0
IsMatchAnswered flags asked = (text : List ℕ) × (status : ℕ) × IsMatchAnswer flags asked text status

-- `first` has an output. Whether it is printed is not said.
abbrev pub IsFirstAnswered : Flags → FirstArguments → Type 0
IsFirstAnswered flags asked = (text : List ℕ) × (status : ℕ) × IsFirstAnswer flags asked text status

-- What was found is printed, with status 0, or, if there is no match (`None`), the text that says
-- so, with status 1.
abbrev pub PrintsFound : (json : Bool) → Option (String Global) → (status : ℕ)
    → (old new : Option (List ℕ)) → Type 0
PrintsFound json found status old new =
    MatchOption found ((status ≡ NO_MATCH) × Appends old new (no_match_text json))
    (λ text. (status ≡ DONE) × Appends old new (string_bytes text))

-- ---- errors that are explained

-- A run may print a note: errors are explained, and `url` rejects the input, or the input may be
-- too long.
abbrev pub HasNote : Flags → (input : List ℕ) → (base : Option (List ℕ)) → Type 0
HasNote flags input base = (flags.explain_errors ≡ true) × IsRejectedText input base

-- What is written of a run without output if errors are explained: `line`, the error, and possibly
-- a diagnosis after it; or only that memory ran out.
abbrev pub ReportsFirst : (line : List ℕ) → (old new : Option (List ℕ)) → Type 0
ReportsFirst line old new =
    ((more : List ℕ) × Appends old new (line ++ more)) ⊎ Appends old new (codes "out of memory\n")
