-- The place that a cursor has reached in a text, and the token that it returns.
use Rattle.std.specs.Prelude.{ℕ, List}
use Rattle.urlpattern_parser.specs.declared.tokenizer.cursors.Cursor.{Cursor}
use Rattle.urlpattern_syntax.specs.Cursors.{IsTokenAfter}
use Rattle.urlpattern_syntax.specs.Text.{chars}
use Rattle.urlpattern_syntax.specs.Tokens.{token_view}
use Rattle.urlpattern_syntax.specs.declared.tokenizer.Token.{Token}

-- The whole text that the cursor reads.
abbrev pub cursor_text : Cursor → List ℕ
cursor_text cursor = chars cursor.input.now

-- The text after the place of the cursor.
abbrev pub cursor_rest : Cursor → List ℕ
cursor_rest cursor = chars cursor.rest.now

-- The token is the first after the place of the cursor `old`, and `new` has the place after the
-- token.
abbrev pub GivesToken : (old : Cursor) → Token → (new : Cursor) → Type 0
GivesToken old token new =
    IsTokenAfter (cursor_text old) (cursor_rest old) (token_view token) (cursor_rest new)
