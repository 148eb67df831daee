-- The views of errors, and what is said of the errors of a call.
use Rattle.std.specs.Prelude.{◌≡◌, ◌⊎◌, ℕ, List, Result, IsOkUnless}
use Rattle.url.specs.declared.error.ParseError.{ParseError}
pub use Rattle.urlpattern_syntax.specs.declared.error.Error.{Error}
use Rattle.urlpattern_syntax.specs.declared.error.{ParserError.ParserError, RegExpError.RegExpError}
use Rattle.urlpattern_syntax.specs.Text.{text_of}
use Rattle.urlpattern_syntax.specs.Tokens.{FaultView, TokenType, fault_view}

-- The view of an `Error`, with its texts as characters.
pub data ErrorView : Type 0 where
  BaseUrlRequired BaseUrlWithInit : ErrorView
  Tokenizer : FaultView → ℕ → ErrorView
  -- The expected kind, then the kind and the value of the token found.
  ExpectedToken : (expected found : TokenType) → List ℕ → ErrorView
  DuplicateName : List ℕ → ErrorView
  Url : ParseError → ErrorView
  RegExp OutOfMemory : ErrorView

-- The view of a `ParserError`, as an `Error`.
abbrev pub parser_error_view : ParserError → ErrorView
parser_error_view (ParserError.ExpectedToken expected found value) =
    ExpectedToken expected found (text_of value)
parser_error_view (ParserError.DuplicateName name) = DuplicateName (text_of name)

-- The view of an `Error`.
abbrev pub error_view : Error → ErrorView
error_view Error.BaseUrlRequired = BaseUrlRequired
error_view Error.BaseUrlWithInit = BaseUrlWithInit
error_view (Error.Tokenizer fault place) = Tokenizer (fault_view fault) place
error_view (Error.Parser error) = parser_error_view error
error_view (Error.Url error) = Url error
error_view (Error.RegExp error) = RegExp
error_view Error.OutOfMemory = OutOfMemory

-- The view of an engine's error, as an `Error`: the regular expression was rejected, or memory ran
-- out.
abbrev pub regexp_error_view : RegExpError → ErrorView
regexp_error_view RegExpError.Pattern = RegExp
regexp_error_view RegExpError.OutOfMemory = OutOfMemory

-- The error is `OutOfMemory`, or `Is` holds of it.
abbrev pub MemoryOr : (Is : ErrorView → Type 0) → Error → Type 0
MemoryOr Is error = (error_view error ≡ OutOfMemory) ⊎ Is (error_view error)

-- `Error::OutOfMemory`: memory ran out. A call with this clause returns a value or this error; any
-- call that allocates may return the error.
abbrev pub OnlyOutOfMemory : {A : Type 0} → Result A Error → Type 0
OnlyOutOfMemory result = IsOkUnless result Error.OutOfMemory
