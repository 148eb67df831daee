-- Tokens of the strict policy that are read one by one, and the place that the reader has reached.
use Rattle.std.specs.Prelude.{◌≡◌, ℕ, ◌⊎◌, ◌&&◌, not, Bool, IsTrue, List, [], ◌∷◌, ◌++◌}
use Rattle.std.specs.List.{list_all}
use Rattle.urlpattern_syntax.specs.Text.{BeginsWith, is_among}
use Rattle.urlpattern_syntax.specs.Tokens.{IsCut, IsStrictCut, IsTokenOf, Skips, TokenType, TokenView, end_of, is_ignored, marks}

-- The reader has reached `rest`: `whole` before `rest` is cut into strict tokens, and `rest` does
-- not begin with a character that is skipped between tokens.
pub record IsPlace (whole rest : List ℕ) : Type 0 where
  pub front : List TokenView
  pub cut : IsStrictCut whole front rest
  pub begins : ¬ BeginsWith is_ignored rest

-- `tokens` are the strict tokens of `rest`, a suffix of `whole`, and then End. Their indices are in
-- `whole`.
pub record AreTokensAfter (whole rest : List ℕ) (tokens : List TokenView) : Type 0 where
  pub front : List TokenView
  pub cut : IsCut (IsTokenOf whole) rest front []
  pub all : tokens ≡ front ++ end_of whole ∷ []

-- `rest`, a suffix of `whole`, begins with `token`, and only skipped characters are between the
-- token and `next`. At the end of the text the token is End.
abbrev pub IsTokenAfter : (whole rest : List ℕ) → TokenView → (next : List ℕ) → Type 0
IsTokenAfter whole rest token next =
    ((rest ≡ []) × (token ≡ end_of whole) × (next ≡ []))
    ⊎ ((behind : List ℕ) × IsTokenOf whole rest token behind × Skips behind next)

-- A lower bound of the number of tokens after a token of this kind: 0 after End, otherwise 1.
abbrev pub tokens_left : TokenType → ℕ
tokens_left TokenType.End = 0
tokens_left kind = 1

-- Whether the character is a Char token: it neither begins another kind of token nor is skipped.
abbrev pub is_char_token : ℕ → Bool
is_char_token c = not (is_among marks c) && not (is_ignored c)

-- `rest` is `characters`, all of them Char tokens, and then `next`, which begins with a further
-- Char token unless `characters` is empty.
pub record AreCharactersBefore (rest characters next : List ℕ) : Type 0 where
  pub cut : rest ≡ characters ++ next
  pub stand : IsTrue (list_all is_char_token characters)
  pub more : (characters ≡ []) ⊎ BeginsWith is_char_token next
