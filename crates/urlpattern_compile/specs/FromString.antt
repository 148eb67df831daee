-- Patterns compiled from a constructor string, after the URLPattern Standard, section "The
-- URLPattern class", "create a URL pattern".
use Rattle.std.specs.Prelude.{◌≡◌, ◌⊎◌, ℕ, List, Option, Ok}
use Rattle.url.specs.Parts.{Parts}
use Rattle.urlpattern_canonical.specs.BaseUrls.{parsed_base, text_bytes}
use Rattle.urlpattern_canonical.specs.Canonical.{Reports}
use Rattle.urlpattern_matcher.specs.declared.regexp.RegExp.{Ghosts as Engine}
use Rattle.urlpattern_init.specs.ConstructorString.{HasProtocolOrBase, RejectsString, SplitsInto}
use Rattle.urlpattern_init.specs.{Inheritance.values_view, SpecialProtocol.IsSpecialTo}
use Rattle.urlpattern_init.specs.declared.init.UrlPatternInit.{UrlPatternInit}
use Rattle.urlpattern_inputs.specs.declared.options.UrlPatternOptions.{UrlPatternOptions}
use Rattle.urlpattern_compile.specs.PatternViews.{PatternView}
use Rattle.urlpattern_compile.specs.{Compiled.IsPatternOfInit, Compiled.RejectsInit}
use Rattle.urlpattern_syntax.specs.Errors.{ErrorView}

-- ---- inits

-- The constructor string `text` with the base URL `base` is parsed to `init`; the engine decides
-- which protocols are special.
pub record IsInitOfText {E : Type 0} (engine : Engine E) (text : List ℕ) (base : Option (List ℕ))
    (init : UrlPatternInit) : Type 0 where
  pub has_base : parsed_base base ≡ Ok init.base_url
  pub is_split : SplitsInto (IsSpecialTo engine) text (values_view init)
  pub is_complete : HasProtocolOrBase init

-- `url` accepts the base URL `base`, and the constructor string `text` is rejected with `error`
-- when it is split.
abbrev pub RejectsSplit : (text : List ℕ) → (base : Option (List ℕ)) → ErrorView → Type 0
RejectsSplit text base error =
    (url : Option Parts) × (parsed_base base ≡ Ok url) × RejectsString text url error

-- The constructor string `text` with the base URL `base` is not parsed to an init, but rejected
-- with `error`: `url` rejects the base URL, or the string is rejected when it is split.
abbrev pub RejectsText : (text : List ℕ) → (base : Option (List ℕ)) → ErrorView → Type 0
RejectsText text base error =
    Reports (parsed_base base) (text_bytes base) error ⊎ RejectsSplit text base error

-- ---- patterns

-- The constructor string `text` with the base URL `base` is compiled to `pattern` under the options
-- `asked`.
pub record IsPatternOfText {E : Type 0} (engine : Engine E) (text : List ℕ) (base : Option (List ℕ))
    (asked : UrlPatternOptions) (pattern : PatternView E) : Type 0 where
  pub init : UrlPatternInit
  pub is_constructed : IsInitOfText engine text base init
  pub is_compiled : IsPatternOfInit engine init asked pattern

-- The constructor string `text` with the base URL `base` is rejected with `error`, when it is
-- parsed or when its init is compiled under the options `asked`.
abbrev pub RejectsPatternOfText : {E : Type 0} → Engine E
    → (text : List ℕ) → (base : Option (List ℕ)) → UrlPatternOptions → ErrorView → Type 0
RejectsPatternOfText engine text base asked error =
    RejectsText text base error
    ⊎ ((init : UrlPatternInit) × IsInitOfText engine text base init
    × RejectsInit engine init asked error)
