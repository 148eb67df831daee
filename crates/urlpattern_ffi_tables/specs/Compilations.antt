-- Patterns of what C passes: a constructor string with a base URL, or an init in JSON.
use Rattle.std.specs.Prelude.{◌⊎◌, ℕ, Bool, List}
use Rattle.std.specs.Str.{IsUtf8}
use Rattle.urlpattern.specs.Errors.{ErrorView}
use Rattle.urlpattern.specs.Patterns.{pattern_view}
use Rattle.urlpattern_compile.specs.Compiled.{IsPatternOfInit}
use Rattle.urlpattern_engine.specs.PatternRegexps.{pattern_engine}
use Rattle.urlpattern_engine.specs.declared.pattern_regexp.PatternRegexp.{PatternRegexp}
use Rattle.urlpattern_ffi.specs.Calls.{c_options, given_base, IsCompiledFromText, KeepsItsParts, RejectsCompilation}
use Rattle.urlpattern_ffi.specs.Inits.{IsInitOfJson, IsInitRejected, IsNoInit}
use Rattle.urlpattern_ffi.specs.declared.status.Status.{Status}
use Rattle.urlpattern_ffi.specs.declared.status.Status.TheVariants as statuses
use Rattle.urlpattern_init.specs.declared.init.UrlPatternInit.{UrlPatternInit}
use Rattle.urlpattern_pattern.specs.KeptParts.{KeepsPartsOf}
use Rattle.urlpattern_pattern.specs.UrlPatterns.{UrlPattern}

-- The constructor string `text` with the base URL `base` is compiled to the pattern, which keeps
-- its parts.
abbrev pub IsPatternOfBytes : (text base : List ℕ) → (ignore_case : Bool)
    → UrlPattern PatternRegexp → Type 0
IsPatternOfBytes text base ignores pattern =
    IsCompiledFromText text (given_base base) ignores pattern
    × KeepsItsParts text (given_base base) ignores pattern

-- The status says why there is no pattern of a constructor string. `Refused`: it is rejected.
abbrev pub RejectsBytes : (text base : List ℕ) → (ignore_case : Bool) → Status → Type 0
RejectsBytes text base ignores statuses.Refused =
    (error : ErrorView) × RejectsCompilation text (given_base base) ignores error
RejectsBytes text base ignores statuses.NotUtf8 = (¬ IsUtf8 text) ⊎ (¬ IsUtf8 base)
RejectsBytes text base ignores statuses.OutOfMemory = Unit {0}
RejectsBytes text base ignores status = ⊥

-- The init in the JSON is compiled to the pattern, which keeps its parts.
abbrev pub IsPatternOfJson : (json : List ℕ) → (ignore_case : Bool) → UrlPattern PatternRegexp
    → Type 0
IsPatternOfJson json ignores pattern =
    (init : UrlPatternInit) × IsInitOfJson json init
    × IsPatternOfInit pattern_engine init (c_options ignores) (pattern_view pattern)
    × KeepsPartsOf pattern_engine init (c_options ignores) pattern

-- The status says why there is no pattern of JSON. `Refused`: it is no init, or the init is
-- rejected. Any other status is as in `IsNoInit`.
abbrev pub RejectsJson : (json : List ℕ) → (ignore_case : Bool) → Status → Type 0
RejectsJson json ignores statuses.Refused =
    IsNoInit json statuses.Refused ⊎ ((error : ErrorView) × IsInitRejected json ignores error)
RejectsJson json ignores status = IsNoInit json status
