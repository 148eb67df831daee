-- Errors of `url` that are reported as a single reason.
use Rattle.std.specs.Prelude.{◌≡◌, ℕ, Result, Ok, IsErrAnd, MatchResult}
use Rattle.url.specs.declared.error.ParseError.{ParseError}
use Rattle.urlpattern_canonical.specs.Canonical.{reported_error}
use Rattle.urlpattern_syntax.specs.declared.error.Error.{Error}
use Rattle.urlpattern_syntax.specs.Errors.{ErrorView, error_view}

-- The error that is reported for the error `other` of `url` on texts of at most `bytes` bytes:
-- `reason`, unless `other` is out of memory or an overflow.
abbrev pub reported_as : (reason other : ParseError) → (bytes : ℕ) → ErrorView
reported_as reason ParseError.OutOfMemory bytes = reported_error ParseError.OutOfMemory bytes
reported_as reason ParseError.Overflow bytes = reported_error ParseError.Overflow bytes
reported_as reason other bytes = ErrorView.Url reason

-- `answer` is what `url` returned. `result` is the same value, or an error: `reason` for each error
-- of `url` other than an overflow and out of memory.
abbrev pub IsRejectedAs : {T : Type 0} → (reason : ParseError)
    → (answer : Result T ParseError) → (bytes : ℕ) → Result T Error → Type 0
IsRejectedAs reason answer bytes result =
    MatchResult answer (λ value. result ≡ Ok value) (λ other. IsErrAnd result (λ error.
    error_view error ≡ reported_as reason other bytes))
