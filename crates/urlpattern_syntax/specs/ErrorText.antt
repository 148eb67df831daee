-- The messages of the errors, as the bytes that are printed.
use Rattle.std.specs.Prelude.{ℕ, List, ◌++◌, codes, decimal, encode_utf8_all, Option, Some, None}
use Rattle.urlpattern_syntax.specs.declared.error.ParserError.{ParserError}
use Rattle.urlpattern_syntax.specs.{Errors.ErrorView, Text.text_of}
use Rattle.urlpattern_syntax.specs.Tokens.{FaultView, TokenType}

-- The name of a kind of token.
abbrev pub kind_name : TokenType → List ℕ
kind_name TokenType.Open = codes "Open"
kind_name TokenType.Close = codes "Close"
kind_name TokenType.Regexp = codes "Regexp"
kind_name TokenType.Name = codes "Name"
kind_name TokenType.Char = codes "Char"
kind_name TokenType.EscapedChar = codes "EscapedChar"
kind_name TokenType.OtherModifier = codes "OtherModifier"
kind_name TokenType.Asterisk = codes "Asterisk"
kind_name TokenType.End = codes "End"
kind_name TokenType.InvalidChar = codes "InvalidChar"

-- The message of a tokenizer's fault. The words of a reason are ASCII, so they are their own bytes.
abbrev pub fault_text : FaultView → List ℕ
fault_text FaultView.IncompleteEscapeCode = codes "incomplete escape code"
fault_text FaultView.InvalidName = codes "invalid name; must be at least length 1"
fault_text (FaultView.InvalidRegex reason) = codes "invalid regex: " ++ reason

-- The message for a token of an unexpected kind, with the token's value.
abbrev pub expected_token_text : (expected found : TokenType) → (value : List ℕ) → List ℕ
expected_token_text expected found value =
    codes "expected token " ++ kind_name expected ++ codes ", found '" ++ encode_utf8_all value
    ++ codes "' of type "
    ++ kind_name found

-- The message for a name that two groups have.
abbrev pub duplicate_name_text : List ℕ → List ℕ
duplicate_name_text name = codes "pattern contains duplicate name " ++ encode_utf8_all name

-- The message of a `ParserError`.
abbrev pub parser_error_text : ParserError → List ℕ
parser_error_text (ParserError.ExpectedToken expected found value) =
    expected_token_text expected found (text_of value)
parser_error_text (ParserError.DuplicateName name) = duplicate_name_text (text_of name)

-- The message of an `Error`. `None` for an error of `url`, whose message no clause describes.
abbrev pub error_text : ErrorView → Option (List ℕ)
error_text ErrorView.BaseUrlRequired =
    Some (codes "a relative input without a base URL is not valid")
error_text ErrorView.BaseUrlWithInit =
    Some (codes "specifying both an init object, " ++ codes "and a separate base URL is not valid")
error_text (ErrorView.Tokenizer fault place) =
    Some (codes "tokenizer error: " ++ fault_text fault ++ codes " (at char " ++ decimal place
    ++ codes ")")
error_text (ErrorView.ExpectedToken expected found value) =
    Some (codes "parser error: " ++ expected_token_text expected found value)
error_text (ErrorView.DuplicateName name) =
    Some (codes "parser error: " ++ duplicate_name_text name)
error_text (ErrorView.Url error) = None
error_text ErrorView.RegExp = Some (codes "regexp error")
error_text ErrorView.OutOfMemory = Some (codes "out of memory")
