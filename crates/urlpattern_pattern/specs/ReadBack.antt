-- A pattern written as a constructor string or as an init that is compiled to equal parts.
use Rattle.std.specs.Prelude.{◌≡◌, ◌⊎◌, ℕ, List, [], ◌∷◌, Option, None, Some, IsSomeAnd, MatchOption, string_bytes}
use Rattle.std.specs.Str.{chars}
use Rattle.urlpattern_compare.specs.declared.pattern_parts.PatternParts.{PatternParts}
use Rattle.urlpattern_compare.specs.EqualParts.{AreEqualParts}
use Rattle.urlpattern_compile.specs.{Compiled.RejectsInit, FromString.RejectsPatternOfText}
use Rattle.urlpattern_components.specs.declared.eight.ComponentName.{ComponentName}
use Rattle.urlpattern_components.specs.Eight.{Texts, at, each}
use Rattle.urlpattern_init.specs.declared.init.UrlPatternInit.{UrlPatternInit}
use Rattle.urlpattern_init.specs.Inheritance.{values_view}
use Rattle.urlpattern_inputs.specs.declared.options.UrlPatternOptions.{UrlPatternOptions}
use Rattle.urlpattern_matcher.specs.declared.regexp.RegExp.{Ghosts as Engine}
use Rattle.urlpattern_pattern.specs.ConstructorTexts.{tried_texts}
use Rattle.urlpattern_pattern.specs.KeptParts.{KeepsPartsOf, KeepsPartsOfText}
use Rattle.urlpattern_pattern.specs.UrlPatterns.{UrlPattern}
use Rattle.urlpattern_syntax.specs.Errors.{ErrorView}

-- The options under which a pattern with these parts is compiled. The hash is a component that may
-- ignore case.
abbrev pub options_of : PatternParts → UrlPatternOptions
options_of parts = record {
  regex_syntax = parts.components.hash.options.regex_syntax;
  ignore_case = parts.components.hash.options.ignore_case;
}

-- The pattern has parts, and they are equal to `parts`, options and names included.
abbrev pub HasEqualParts : {E : Type 0} → PatternParts → UrlPattern E → Type 0
HasEqualParts parts pattern = IsSomeAnd pattern.parts (AreEqualParts parts)

-- What is written is compiled to a pattern with parts equal to `parts`, where `Compiles` says which
-- patterns it is compiled to.
abbrev pub ReadsBack : {E : Type 0} → (Compiles : UrlPattern E → Type 0) → PatternParts → Type 0
ReadsBack {E} Compiles parts =
    (pattern : UrlPattern E) × Compiles pattern × HasEqualParts parts pattern

-- What is written is rejected, or compiled to a pattern with other parts than `parts`, where
-- `Compiles` says which patterns it is compiled to, and `Rejects` with which errors it is rejected.
abbrev pub ReadsOtherwise : {E : Type 0} → (Compiles : UrlPattern E → Type 0)
    → (Rejects : ErrorView → Type 0) → PatternParts → Type 0
ReadsOtherwise {E} Compiles Rejects parts =
    ((error : ErrorView) × Rejects error)
    ⊎ ((pattern : UrlPattern E) × Compiles pattern × (¬ HasEqualParts parts pattern))

-- ---- constructor strings

-- The constructor string `text` is compiled, without a base URL, to a pattern with parts equal to
-- `parts`.
abbrev pub TextReadsBack : {E : Type 0} → Engine E → PatternParts → (text : List ℕ) → Type 0
TextReadsBack engine parts text =
    ReadsBack (KeepsPartsOfText engine (chars text) None (options_of parts)) parts

-- The constructor string `text` is rejected, or compiled to a pattern with other parts.
abbrev pub TextReadsOtherwise : {E : Type 0} → Engine E → PatternParts → (text : List ℕ) → Type 0
TextReadsOtherwise engine parts text =
    ReadsOtherwise (KeepsPartsOfText engine (chars text) None (options_of parts))
    (RejectsPatternOfText engine (chars text) None (options_of parts)) parts

-- `found` is the first of the texts that reads back, and each text before it reads otherwise. None:
-- each reads otherwise.
abbrev pub IsFirstReadBack : {E : Type 0} → Engine E → PatternParts → List (List ℕ)
    → Option (List ℕ) → Type 0
IsFirstReadBack engine parts [] found = found ≡ None
IsFirstReadBack engine parts (text ∷ texts) found =
    ((found ≡ Some text) × TextReadsBack engine parts text)
    ⊎ (TextReadsOtherwise engine parts text × IsFirstReadBack engine parts texts found)

-- The pattern strings of the components.
abbrev pub pattern_strings : {E : Type 0} → UrlPattern E → Texts
pattern_strings pattern =
    each (λ name. string_bytes (at pattern.components name).pattern_string)

-- `found` is the constructor string of `pattern`: the first of those that are tried which reads
-- back. None: no such string reads back, or the pattern was put together by hand.
abbrev pub IsConstructorString : {E : Type 0} → Engine E → UrlPattern E → Option (List ℕ) → Type 0
IsConstructorString engine pattern found =
    MatchOption pattern.parts (found ≡ None) (λ parts.
    IsFirstReadBack engine parts (tried_texts (pattern_strings pattern)) found)

-- ---- inits

-- `init` has the pattern string of each component, and no base URL.
pub record IsInitOf {E : Type 0} (pattern : UrlPattern E) (init : UrlPatternInit) : Type 0 where
  pub texts : (name : ComponentName)
      → at (values_view init) name ≡ Some (chars (at (pattern_strings pattern) name))
  pub base : init.base_url ≡ None

-- `init` is compiled to a pattern with parts equal to `parts`.
abbrev pub InitReadsBack : {E : Type 0} → Engine E → PatternParts → UrlPatternInit → Type 0
InitReadsBack engine parts init = ReadsBack (KeepsPartsOf engine init (options_of parts)) parts

-- `init` is rejected, or compiled to a pattern with other parts.
abbrev pub InitReadsOtherwise : {E : Type 0} → Engine E → PatternParts → UrlPatternInit → Type 0
InitReadsOtherwise engine parts init =
    ReadsOtherwise (KeepsPartsOf engine init (options_of parts))
    (RejectsInit engine init (options_of parts)) parts

-- `found` is the init of `pattern`, which has the pattern strings and reads back. None: such an
-- init reads otherwise, or the pattern was put together by hand.
abbrev pub IsPatternInit : {E : Type 0} → Engine E → UrlPattern E → Option UrlPatternInit → Type 0
IsPatternInit engine pattern found =
    MatchOption pattern.parts (found ≡ None) (λ parts.
    MatchOption found
    ((init : UrlPatternInit) × IsInitOf pattern init × InitReadsOtherwise engine parts init)
    (λ init. IsInitOf pattern init × InitReadsBack engine parts init))
