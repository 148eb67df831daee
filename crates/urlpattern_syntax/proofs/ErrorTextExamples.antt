-- Worked examples of the messages of errors.
use Rattle.std.proofs.Common.{◌≡◌, [], ◌∷◌, ◌++◌, refl}
use Rattle.std.specs.Char.{encode_utf8}
use Rattle.std.specs.Fmt.{digits}
use Rattle.std.specs.Prelude.{codes, Some}
use Rattle.urlpattern_syntax.specs.declared.tokenizer.TokenType.TheVariants as kinds
use Rattle.urlpattern_syntax.specs.Errors.{Tokenizer, ExpectedToken, DuplicateName, RegExp}
use Rattle.urlpattern_syntax.specs.ErrorText.{error_text}
use Rattle.urlpattern_syntax.specs.Tokens.{IncompleteEscapeCode, InvalidName, InvalidRegex}

-- The pattern `:` has no name.
pub invalid_name : error_text (Tokenizer InvalidName 0) ≡ Some (codes "tokenizer error: " ++ codes "invalid name; must be at least length 1 (at char 0)")
unfolding digits
invalid_name = refl

-- A backslash at the end of a text, after 12 bytes.
pub incomplete_escape : error_text (Tokenizer IncompleteEscapeCode 12) ≡ Some (codes "tokenizer error: incomplete escape code (at char 12)")
unfolding digits
incomplete_escape = refl

-- The pattern `a(`: a parenthesis is not closed.
pub not_closed : error_text (Tokenizer (InvalidRegex (codes "missing closing )")) 1) ≡ Some (codes "tokenizer error: invalid regex: missing closing ) (at char 1)")
unfolding digits
not_closed = refl

-- The pattern `}`: End was expected in place of its brace.
pub expected_end : error_text (ExpectedToken kinds.End kinds.Close (codes "}")) ≡ Some (codes "parser error: expected token End, found '}' of type Close")
unfolding encode_utf8
expected_end = refl

-- The pattern `{a`: a closing brace was expected in place of End, whose value is empty.
pub expected_close : error_text (ExpectedToken kinds.Close kinds.End []) ≡ Some (codes "parser error: expected token Close, found '' of type End")
unfolding encode_utf8
expected_close = refl

-- The pattern `:id:id`: two groups have the same name.
pub duplicate_name : error_text (DuplicateName (codes "id")) ≡ Some (codes "parser error: pattern contains duplicate name id")
unfolding encode_utf8
duplicate_name = refl

-- A name outside ASCII is printed in UTF-8.
pub accented_name : error_text (DuplicateName (0xE9 ∷ [])) ≡ Some (codes "parser error: pattern contains duplicate name " ++ 0xC3 ∷ 0xA9 ∷ [])
unfolding encode_utf8
accented_name = refl

-- An engine that rejected a regular expression.
pub regexp : error_text RegExp ≡ Some (codes "regexp error")
regexp = refl
