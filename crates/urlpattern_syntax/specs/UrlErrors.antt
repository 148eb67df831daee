-- The errors of `url` as errors of patterns.
use Rattle.url.specs.declared.error.ParseError.{ParseError}
use Rattle.urlpattern_syntax.specs.Errors.{ErrorView}

-- The error of a pattern for an error of `url`: `OutOfMemory` for `OutOfMemory`, `Url` for any
-- other reason.
abbrev pub url_error : ParseError → ErrorView
url_error ParseError.OutOfMemory = ErrorView.OutOfMemory
url_error reason = ErrorView.Url reason
