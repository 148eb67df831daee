-- Inputs of browsers: what a pattern is constructed from, and what it is matched against, after the
-- URLPattern Standard, sections "Constructor", and "Matching", "match".
use Rattle.std.specs.Prelude.{◌≡◌, ⊤, ℕ, List, Option, None, Some, Result, Ok, IfOk, String, option_map, string_bytes, MatchOption}
use Rattle.std.specs.{Cow.cow_str_bytes, Str.chars}
use Rattle.std.specs.declared.alloc.{AllocError.AllocError, Global.Global}
use Rattle.urlpattern_init.specs.Inheritance.{values_of, values_view}
use Rattle.urlpattern_init.specs.declared.init.{UrlPatternInit.UrlPatternInit, UrlPatternMatchInput.UrlPatternMatchInput}
use Rattle.urlpattern_init.specs.declared.init.UrlPatternMatchInput.TheVariants as match_inputs
use Rattle.urlpattern_canonical.specs.Canonical.{IsRejectedByUrl, Reports}
use Rattle.urlpattern_matcher.specs.Regexes.{regex_engine}
use Rattle.urlpattern_inputs.specs.declared.init.UrlPatternInit.{UrlPatternInit as PlainInit}
use Rattle.urlpattern_inputs.specs.declared.input.StringOrInit.{StringOrInit}
use Rattle.urlpattern_inputs.specs.declared.input.StringOrInit.TheVariants as inputs
use Rattle.urlpattern_inputs.specs.InputValues.{plain_init_texts, input_view}
pub use Rattle.urlpattern_canonical.specs.BaseUrls.{IsRejectedText, parsed_base, parsed_text, text_bytes}
pub use Rattle.urlpattern_compile.specs.FromString.{RejectsText}
use Rattle.urlpattern_compile.specs.FromString.{IsInitOfText}
use Rattle.urlpattern_syntax.specs.Errors.{ErrorView, ErrorView as views}
use Rattle.urlpattern_syntax.specs.Text.{text_of}
use Rattle.urlpattern_components.specs.Eight.{Values}

-- ---- inits

-- The texts of a plain init's components.
abbrev pub plain_values : PlainInit → Values
plain_values init = values_of (plain_init_texts init)

-- The text of a plain init's base URL.
abbrev pub plain_base : PlainInit → Option (List ℕ)
plain_base init = option_map string_bytes init.base_url

-- `copied` is a copy of the optional text, unless memory ran out.
abbrev pub IsCopyOfText : Option (List ℕ) → Result (Option (String Global)) AllocError → Type 0
IsCopyOfText text copied = IfOk copied (λ copy. option_map text_of copy ≡ text)

-- `init` has the texts of `plain`, and the URL to which the base URL of `plain` is parsed, if there
-- is one.
pub record IsInitOf (plain : PlainInit) (init : UrlPatternInit) : Type 0 where
  pub has_texts : values_view init ≡ plain_values plain
  pub has_base : parsed_base (plain_base plain) ≡ Ok init.base_url

-- The input is an init and a base URL is passed with it.
abbrev pub HasInitAndBase : StringOrInit → (base : Option (List ℕ)) → Type 0
HasInitAndBase (inputs.Init plain) (Some base) = ⊤
HasInitAndBase input base = ⊥

-- ---- constructing

-- A pattern is constructed from this init: what the constructor string is split into under the base
-- URL, or what the plain init is converted to. The crate `regex` decides which protocols are
-- special.
abbrev pub IsConstructedFrom : StringOrInit → (base : Option (List ℕ)) → UrlPatternInit → Type 0
IsConstructedFrom (inputs.String text) base init =
    IsInitOfText regex_engine (chars (cow_str_bytes text)) base init
IsConstructedFrom (inputs.Init plain) None init = IsInitOf plain init
IsConstructedFrom (inputs.Init plain) (Some base) init = ⊥

-- The input and the base URL are rejected with this error when a pattern is constructed.
abbrev pub RejectsInput : StringOrInit → (base : Option (List ℕ)) → ErrorView → Type 0
RejectsInput (inputs.String text) base error = RejectsText (chars (cow_str_bytes text)) base error
RejectsInput (inputs.Init plain) None error =
    Reports (parsed_base (plain_base plain)) (text_bytes (plain_base plain)) error
RejectsInput (inputs.Init plain) (Some base) error = error ≡ views.BaseUrlWithInit

-- ---- matching

-- A pattern is matched against `matched`: the URL of the text under the base URL, or what the plain
-- init is converted to.
abbrev pub IsMatchInput : StringOrInit → (base : Option (List ℕ)) → UrlPatternMatchInput → Type 0
IsMatchInput (inputs.String text) base (match_inputs.Url url) =
    parsed_text base (cow_str_bytes text) ≡ Ok url
IsMatchInput (inputs.Init plain) None (match_inputs.Init init) = IsInitOf plain init
IsMatchInput input base matched = ⊥

-- `again` is a copy of the input and of the text of the base URL.
pub record AreInputs (input : StringOrInit) (base : Option (List ℕ))
    (again : StringOrInit × Option (String Global)) : Type 0 where
  pub same_input : input_view again.0 ≡ input_view input
  pub same_base : option_map text_of again.1 ≡ option_map chars base

-- `found` is what a pattern is matched against, and a copy of the input and of the base URL.
abbrev pub IsProcessed : StringOrInit
    → (base : Option (List ℕ)) → UrlPatternMatchInput × (StringOrInit × Option (String Global))
    → Type 0
IsProcessed input base found = IsMatchInput input base found.0 × AreInputs input base found.1

-- No pattern can be matched against the input: `url` rejects the text or a base URL, or a text may
-- be too long.
abbrev pub RejectsMatchInput : StringOrInit → (base : Option (List ℕ)) → Type 0
RejectsMatchInput (inputs.String text) base = IsRejectedText (cow_str_bytes text) base
RejectsMatchInput (inputs.Init plain) None =
    IsRejectedByUrl (parsed_base (plain_base plain)) (text_bytes (plain_base plain))
RejectsMatchInput (inputs.Init plain) (Some base) = ⊥

-- `found` is what a pattern is matched against, and a copy of the input and of its base URL. It is
-- `None` if `url` rejects the text or a base URL, or if a text may be too long for `url`.
abbrev pub FindsInput : StringOrInit
    → (base : Option (List ℕ))
    → Option (UrlPatternMatchInput × (StringOrInit × Option (String Global)))
    → Type 0
FindsInput input base found =
    MatchOption found (RejectsMatchInput input base) (IsProcessed input base)

-- The error is `BaseUrlWithInit`, and a base URL is passed with an init.
abbrev pub RejectsSecondBase : StringOrInit → (base : Option (List ℕ)) → ErrorView → Type 0
RejectsSecondBase input base error = (error ≡ views.BaseUrlWithInit) × HasInitAndBase input base
