-- The patterns to which the constructor strings among the arguments are compiled. Texts are bytes.
-- `ignores` says whether patterns ignore case.
use Rattle.std.specs.Prelude.{ℕ, Bool, List, Option}
use Rattle.std.specs.Str.{chars}
use Rattle.urlpattern_compile.specs.FromString.{IsPatternOfText, RejectsPatternOfText}
use Rattle.urlpattern_engine.specs.PatternRegexps.{pattern_engine}
use Rattle.urlpattern_engine.specs.declared.pattern_regexp.PatternRegexp.{PatternRegexp}
use Rattle.urlpattern_inputs.specs.declared.options.UrlPatternOptions.{UrlPatternOptions}
use Rattle.urlpattern_pattern.specs.KeptParts.{KeepsPartsOfText}
use Rattle.urlpattern_pattern.specs.Patterns.{PatternView}
use Rattle.urlpattern_pattern.specs.UrlPatterns.{UrlPattern}
use Rattle.urlpattern_syntax.specs.Errors.{ErrorView}
use Rattle.urlpattern_syntax.specs.declared.parser.RegexSyntax.TheVariants.{Rust}

-- The options for patterns: the syntax of `regex`, and case ignored or not.
abbrev pub pattern_options : (ignores : Bool) → UrlPatternOptions
pattern_options ignores = record { regex_syntax = Rust; ignore_case = ignores }

-- The constructor string `text` with the base URL `base` is compiled to the pattern, with the
-- engine `PatternRegexp`.
abbrev pub IsPatternOf : (ignores : Bool) → (text : List ℕ)
    → (base : Option (List ℕ)) → PatternView PatternRegexp → Type 0
IsPatternOf ignores text base pattern =
    IsPatternOfText pattern_engine (chars text) base (pattern_options ignores) pattern

-- The pattern keeps the parts that the texts of its components are parsed to, and its components
-- are made of these parts. The texts are those of the constructor string `text` with the base URL
-- `base`.
abbrev pub KeepsPartsOfWord : (ignores : Bool) → (text : List ℕ)
    → (base : Option (List ℕ)) → UrlPattern PatternRegexp → Type 0
KeepsPartsOfWord ignores text base pattern =
    KeepsPartsOfText pattern_engine (chars text) base (pattern_options ignores) pattern

-- The constructor string `text` with the base URL `base` is rejected with this error, when it is
-- parsed or compiled.
abbrev pub RejectsPatternOf : (ignores : Bool) → (text : List ℕ)
    → (base : Option (List ℕ)) → ErrorView → Type 0
RejectsPatternOf ignores text base error =
    RejectsPatternOfText pattern_engine (chars text) base (pattern_options ignores) error
