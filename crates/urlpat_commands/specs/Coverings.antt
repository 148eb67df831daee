-- Whether a pattern covers another, and what is printed of it. Arguments and texts are bytes. `old`
-- and `new` are the output before and after, as far as it is known.
use Rattle.std.specs.Prelude.{◌≡◌, ℕ, Bool, List, Option, None, Some, option_copied}
use Rattle.std.specs.Io.KnownBytes.{Appends}
use Rattle.urlpat_commands.specs.ComparisonTexts.{covering_shown}
use Rattle.urlpat_matching.specs.declared.command.{CoversArguments.CoversArguments, Flags.Flags}
use Rattle.urlpat_matching.specs.PatternWords.{IsPatternOf, KeepsPartsOfWord}
use Rattle.urlpattern_engine.specs.declared.pattern_regexp.PatternRegexp.{PatternRegexp}
use Rattle.urlpattern_pattern.specs.Patterns.{pattern_view}
use Rattle.urlpattern_pattern.specs.UrlPatterns.{UrlPattern}
use Rattle.urlpattern_compare.specs.Comparing.{IsPatternCovering}
use Rattle.urlpattern_compare.specs.declared.pattern_parts.{Parting.Parting, PatternCovering.PatternCovering, PatternParts.PatternParts}
use Rattle.urlpattern_compare.specs.declared.pattern_parts.PatternCovering.TheVariants.{Covered, NotCovered, Unknown}

-- `parts` are the parts of the pattern to which the constructor string `text` with the base URL
-- `base` is compiled. `ignores` says whether it ignores case.
abbrev pub ArePartsOf : (ignores : Bool) → (text : List ℕ) → (base : Option (List ℕ))
    → PatternParts → Type 0
ArePartsOf ignores text base parts =
    (compiled : UrlPattern PatternRegexp) × IsPatternOf ignores text base (pattern_view compiled)
    × KeepsPartsOfWord ignores text base compiled × (compiled.parts ≡ Some parts)

-- `covering` says whether the first pattern covers the asked one.
abbrev pub ComparesWith : (ignores : Bool) → CoversArguments → PatternCovering → Type 0
ComparesWith ignores patterns covering =
    (parts asked_parts : PatternParts)
    × ArePartsOf ignores patterns.pattern.now (option_copied patterns.base) parts
    × ArePartsOf ignores patterns.asked.now (option_copied patterns.base) asked_parts
    × IsPatternCovering parts asked_parts covering

-- The exit status: 0 if a pattern covers the asked one, 1 if it does not, which `parting` shows.
abbrev pub parting_status : (parting : Option Parting) → ℕ
parting_status None = 0
parting_status (Some parting) = 1

-- Whether a pattern covers the asked one is printed, and `status` is the exit status. `parting`
-- shows that it does not.
abbrev pub PrintsDecided : (json : Bool) → (parting : Option Parting) → (status : ℕ)
    → (old new : Option (List ℕ)) → Type 0
PrintsDecided json parting status old new =
    (status ≡ parting_status parting) × Appends old new (covering_shown json parting)

-- The comparison is printed, and the exit status is `status`. It is 2 if nothing is decided.
abbrev pub PrintsWhich : (json : Bool) → PatternCovering → (status : ℕ)
    → (old new : Option (List ℕ)) → Type 0
PrintsWhich json Covered status old new = PrintsDecided json None status old new
PrintsWhich json (NotCovered parting) status old new =
    PrintsDecided json (Some parting) status old new
PrintsWhich json (Unknown component reason) status old new = status ≡ 2

-- The output and the exit status of `covers` for its arguments.
abbrev pub PrintsWhether : Flags → CoversArguments → (status : ℕ) → (old new : Option (List ℕ))
    → Type 0
PrintsWhether flags patterns status old new =
    (covering : PatternCovering) × ComparesWith flags.ignore_case patterns covering
    × PrintsWhich flags.json covering status old new
