-- Where the pieces of a text end, after the URLPattern Standard, section "Parsing pattern strings".
use Rattle.std.specs.Prelude.{◌≡◌, ℕ, List, ◌∷◌, ◌++◌}
use Rattle.urlpattern_syntax.specs.Pieces.{ArePieces, Ending, IsEnding, LacksClose, Piece, Stops}
use Rattle.urlpattern_syntax.specs.Tokens.{AreTokens, TokenView}

-- The token of an ending: the token that begins no piece, or that is in place of a group's Close.
abbrev pub stopping_token : Ending → TokenView
stopping_token (Stops found) = found
stopping_token (LacksClose found) = found

-- The pieces of the text, with the prefix code point `point`, end at the token `found`. The first
-- token outside the pieces is `first`: `found` itself, or the Open of the group that lacks its
-- Close.
pub record IsStopOf (text point : List ℕ) (first found : TokenView) : Type 0 where
  pub tokens : List TokenView
  pub front : List TokenView
  pub more : List TokenView
  pub pieces : List Piece
  pub ending : Ending
  pub are_tokens : AreTokens text tokens
  pub cut : tokens ≡ front ++ first ∷ more
  pub are_pieces : ArePieces point tokens pieces ending
  pub is_ending : IsEnding (first ∷ more) ending
  pub is_found : found ≡ stopping_token ending
