-- Match inputs.
use Rattle.std.proofs.Common.{◌≡◌, Ok, ap, inl, inr}
use Rattle.url.specs.declared.error.ParseError.{ParseError}
use Rattle.url.specs.Parser.{and_then}
use Rattle.urlpattern_init.specs.declared.init.UrlPatternInit.{UrlPatternInit}
use Rattle.urlpattern_init.specs.declared.init.UrlPatternMatchInput.TheVariants.{Init}
use Rattle.urlpattern_init.specs.Inheritance.{longest_bytes, processed_values, texts_of_values, values_view}
use Rattle.urlpattern_matches.specs.MatchInput.{IsNoInput}
use Rattle.urlpattern_canonical.specs.Canonical.{Reports}
use Rattle.urlpattern_canonical.specs.declared.canonicalize_and_process.ProcessType.TheVariants.{Url}
use Rattle.urlpattern_syntax.specs.declared.error.Error.{Error}
use Rattle.urlpattern_syntax.specs.declared.error.Error.TheVariants as errors
use Rattle.urlpattern_syntax.specs.Errors.{MemoryOr}

-- An init of which `url` rejects a value has no texts.
pub no_input : (init : UrlPatternInit) (error : Error) (reason : ParseError) → error ≡ errors.Url reason
    → MemoryOr (Reports (processed_values Url (values_view init) init.base_url) (longest_bytes Url (values_view init) init.base_url)) error
    → IsNoInput (Init init)
no_input init error reason is reported =
    elim (rw is at reported) [
      | inl memory ↦ absurd cc
      | inr refused ↦ elim refused.1 [
        | inl asked ↦ inl (reason, ap (λ parsed. and_then parsed (λ values. Ok (texts_of_values values))) asked)
        | inr long ↦ inr long.1
      ]
    ]
