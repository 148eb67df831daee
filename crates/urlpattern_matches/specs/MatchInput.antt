-- The texts of a match input. The URLPattern Standard, section "Matching", at "perform a match".
use Rattle.std.specs.Prelude.{ℕ, List, [], Ok}
use Rattle.url.specs.Parser.{Parsed, and_then}
use Rattle.urlpattern_init.specs.declared.init.UrlPatternMatchInput.{UrlPatternMatchInput}
use Rattle.urlpattern_init.specs.declared.init.UrlPatternMatchInput.TheVariants.{Init, Url as UrlInput}
use Rattle.urlpattern_init.specs.Inheritance.{longest_init_bytes, init_values, texts_of_url, texts_of_values}
use Rattle.urlpattern_canonical.specs.Canonical.{IsRejectedByUrl}
use Rattle.urlpattern_canonical.specs.declared.canonicalize_and_process.ProcessType.TheVariants.{Url}
use Rattle.urlpattern_inputs.specs.InputValues.{matched_texts}
use Rattle.urlpattern_inputs.specs.declared.match_input.MatchInput.{MatchInput}
use Rattle.urlpattern_syntax.specs.Text.{text_of}
use Rattle.urlpattern_components.specs.Eight.{Texts, at, each}

-- The eight texts of a `MatchInput`.
abbrev pub texts_view : MatchInput → Texts
texts_view input = each (λ name. text_of (at (matched_texts input) name))

-- Eight texts of which only the pathname is not empty.
abbrev pub pathname_alone : (pathname : List ℕ) → Texts
pathname_alone pathname = record (each (λ name. [])) { pathname = pathname }

-- The eight texts of a match input: those of the URL, or those of the init's values, with what it
-- inherits from its base URL. An error: `url` rejects a text of the init.
abbrev pub input_texts : UrlPatternMatchInput → Parsed Texts
input_texts (Init init) = and_then (init_values Url init) (λ values. Ok (texts_of_values values))
input_texts (UrlInput url) = Ok (texts_of_url url)

-- The length, in bytes, of the longest text of the init that is passed to `url`; 0 for a URL.
abbrev pub input_bytes : UrlPatternMatchInput → ℕ
input_bytes (Init init) = longest_init_bytes Url init
input_bytes (UrlInput url) = 0

-- The input may give no eight texts: `url` rejects a text of an init, or a text may be too long for
-- `url`.
abbrev pub IsNoInput : UrlPatternMatchInput → Type 0
IsNoInput input = IsRejectedByUrl (input_texts input) (input_bytes input)
