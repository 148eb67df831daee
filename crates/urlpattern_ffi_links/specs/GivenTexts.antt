-- The text of one component of a pattern with groups that are cut out of a text, or why there is
-- none. `given` says where the name and the text of each group are.
use Rattle.std.specs.Prelude.{◌≢◌, ℕ, Any, List}
use Rattle.std.specs.List.{AllZip}
use Rattle.urlpattern_components.specs.declared.eight.ComponentName.{ComponentName}
use Rattle.urlpattern_engine.specs.PatternRegexps.{pattern_result}
use Rattle.urlpattern_engine.specs.declared.pattern_regexp.PatternRegexp.{PatternRegexp}
use Rattle.urlpattern_ffi_links.specs.GivenBytes.{GiveGroups, GivesGroup, GivesNothing, GroupOfBytes}
use Rattle.urlpattern_ffi_links.specs.declared.given.GivenBytes.{GivenBytes}
use Rattle.urlpattern_ffi_links.specs.declared.given_text.Ungenerated.{Ungenerated}
use Rattle.urlpattern_ffi_links.specs.declared.given_text.Ungenerated.TheVariants as ungenerated
use Rattle.urlpattern_generate.specs.WriteSettings.{given_groups}
use Rattle.urlpattern_generate.specs.declared.generate_error.GenerateError.{GenerateError}
use Rattle.urlpattern_generate.specs.declared.generate_error.GenerateError.TheVariants as errors
use Rattle.urlpattern_pattern.specs.ComponentTexts.{GeneratesText, RejectsGroups}
use Rattle.urlpattern_pattern.specs.UrlPatterns.{UrlPattern}

-- `made` is the text of the component with the groups that `given` cuts out of `text`. It is a list
-- of characters.
abbrev pub IsTextOfBytes : UrlPattern PatternRegexp → ComponentName → (text : List ℕ)
    → List GivenBytes → (made : List ℕ) → Type 0
IsTextOfBytes pattern component text given made =
    (groups : List GroupOfBytes) × AllZip (GivesGroup text) given groups
    × GeneratesText pattern_result pattern component (given_groups groups) made

-- The component has no text with the groups that `given` cuts out of `text`, for the reason
-- `error`.
abbrev pub RejectsTextOfBytes : UrlPattern PatternRegexp → ComponentName → (text : List ℕ)
    → List GivenBytes → GenerateError → Type 0
RejectsTextOfBytes pattern component text given error =
    (error ≢ errors.OutOfMemory)
    × ((groups : List GroupOfBytes) × AllZip (GivesGroup text) given groups
    × RejectsGroups pattern_result pattern component (given_groups groups) error)

-- The reason why there is no text: an element of `given` cuts no group out of `text`, the component
-- has no text with the groups, or memory ran out although each element cuts out a group.
abbrev pub IsUngenerated : UrlPattern PatternRegexp → ComponentName → (text : List ℕ)
    → List GivenBytes → Ungenerated → Type 0
IsUngenerated pattern component text given ungenerated.Given = Any (GivesNothing text) given
IsUngenerated pattern component text given (ungenerated.NoText error) =
    RejectsTextOfBytes pattern component text given error
IsUngenerated pattern component text given ungenerated.OutOfMemory = GiveGroups text given
