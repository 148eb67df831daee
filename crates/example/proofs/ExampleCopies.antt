-- A callback that returns a copy of each text, or that memory ran out.
use Rattle.std.proofs.Common.{◌≡◌, ℕ, List, refl, ap, ◌∙◌}
use Rattle.std.proofs.lemmas.Str.{encodes-chars, encodes_same, IsUtf8-string_bytes}
use Rattle.std.specs.Prelude.{MatchResult, Result, Ok, Err, String, string_bytes, encode_utf8_all}
use Rattle.std.specs.declared.alloc.Global.{Global}
use Rattle.urlpattern.specs.Errors.{ErrorView, error_view, ErrorView as views}
use Rattle.urlpattern.specs.Reading.{callback_result_view}
use Rattle.urlpattern.specs.Text.{text_of}
use Rattle.urlpattern.specs.Error.{Error}
use Rattle.urlpattern.specs.Error.TheVariants as errors
use Rattle.urlpattern.specs.ParserError.TheVariants as parser_errors

-- The result of the callback for the text with these bytes.
abbrev pub IsCopyOrMemory : (bytes : List ℕ) → Result (String Global) Error → Type 0
IsCopyOrMemory bytes returned = MatchResult returned (λ copy. string_bytes copy ≡ bytes) (λ error. error ≡ errors.OutOfMemory)

-- A text that the callback returns is the one that it was called with.
pub copied_same : (text other : List ℕ) (returned : Result (String Global) Error) → IsCopyOrMemory (encode_utf8_all text) returned → Ok other ≡ callback_result_view returned → other ≡ text
copied_same text other (Ok copy) is same =
    let e : other ≡ text_of copy = cc in
    encodes_same other text (ap encode_utf8_all e ∙ encodes-chars (string_bytes copy) (IsUtf8-string_bytes copy) ∙ is)
copied_same text other (Err error) is same = absurd (cc)

-- An error that the callback returns is that memory ran out.
pub copied_memory : (view : ErrorView) (bytes : List ℕ) (returned : Result (String Global) Error) → IsCopyOrMemory bytes returned → Err view ≡ callback_result_view returned → view ≡ views.OutOfMemory
copied_memory view bytes (Ok copy) is same = absurd (cc)
copied_memory view bytes (Err error) is same =
    let e : view ≡ error_view error = cc in e ∙ ap error_view is

-- An error with the view `OutOfMemory` is `OutOfMemory`.
pub out_of_memory : (error : Error) → error_view error ≡ views.OutOfMemory → error ≡ errors.OutOfMemory
out_of_memory errors.OutOfMemory is = refl
out_of_memory (errors.Parser (parser_errors.ExpectedToken expected found value)) is = absurd (cc)
out_of_memory error is = absurd (cc)
