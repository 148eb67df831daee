-- Lemmas on URLs under a base URL.
use Rattle.std.proofs.Common.{◌≡◌, ℕ, List, Option, Result, IfOk, length, subst, ap}
use Rattle.std.proofs.Math.Nat.{le-max_right}
use Rattle.url.specs.declared.error.ParseError.{ParseError}
use Rattle.url.specs.declared.Url.{Url}
use Rattle.url.specs.Parser.{and_then, parse_url}
use Rattle.urlpattern_canonical.proofs.CanonicalLemmas.{refused_by_url, reports-more, reports-through}
use Rattle.urlpattern_canonical.specs.BaseUrls.{BaseView, FindsUrlUnder, IsRejectedText, base_view, longer_bytes, parsed_base, parsed_text, text_bytes}
use Rattle.urlpattern_canonical.specs.Canonical.{Reports}
use Rattle.urlpattern_syntax.specs.declared.error.Error.{Error}
use Rattle.urlpattern_syntax.specs.declared.error.Error.TheVariants as errors
use Rattle.urlpattern_syntax.specs.Errors.{MemoryOr}

-- A URL found under a parsed base URL is found under the text of the base URL.
pub found_under : (result : Result (Option Url) Error) (text : List ℕ) (kept : BaseView) (base : Option (List ℕ)) → kept ≡ base_view base →
    IfOk result (FindsUrlUnder text kept) → IfOk result (FindsUrlUnder text (base_view base))
found_under result text kept base same found = subst (λ (view : BaseView). IfOk result (FindsUrlUnder text view)) same found

-- A text is rejected if its base URL is.
pub refused_base : (text : List ℕ) (base : Option (List ℕ)) (error : Error) (reason : ParseError) → error ≡ errors.Url reason →
    MemoryOr (Reports (parsed_base base) (text_bytes base)) error → IsRejectedText text base
refused_base text base error reason is refused =
    refused_by_url (parsed_text base text) (longer_bytes text (base_view base)) error reason is
    (reports-through (parsed_base base) (parsed_text base text) (longer_bytes text (base_view base)) error
    (λ why none. ap (λ url. and_then url (λ found. parse_url found text)) none)
    (reports-more (parsed_base base) (text_bytes base) (longer_bytes text (base_view base)) error (le-max_right (length text) (text_bytes base)) refused))
