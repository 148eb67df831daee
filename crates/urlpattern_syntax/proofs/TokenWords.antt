-- Definitions on token lists, without the text of the tokens.
use Rattle.std.specs.Prelude.{◌≡◌, ℕ, List, [], ◌∷◌}
use Rattle.std.specs.List.{flat_map}
use Rattle.urlpattern_syntax.specs.declared.tokenizer.TokenType.{TokenType}
use Rattle.urlpattern_syntax.specs.Errors.{ErrorView}
use Rattle.urlpattern_syntax.specs.Options.{OptionsView}
use Rattle.urlpattern_syntax.specs.Parts.{PartView}
use Rattle.urlpattern_syntax.specs.Pieces.{ArePieces, Piece, Ending, Ending as endings, Piece as pieces}
use Rattle.urlpattern_syntax.specs.Reading.{demands, items_of, AreMet, AreParts, Encoding, FirstFails}
use Rattle.urlpattern_syntax.specs.Tokens.{TokenView}

-- The values of the tokens, joined.
abbrev pub joined_values : List TokenView → List ℕ
joined_values tokens = flat_map (λ token. token.value) tokens

-- The first token is of this kind.
abbrev pub BeginsWithToken : TokenType → List TokenView → Type 0
BeginsWithToken kind [] = ⊥
BeginsWithToken kind (token ∷ tokens) = token.kind ≡ kind

-- The tokens read as these parts.
pub record ReadsTokens (tokens : List TokenView) (options : OptionsView) (encoding : Encoding) (parts : List PartView) : Type 0 where
  pub pieces : List Piece
  pub found : TokenView
  pub are_pieces : ArePieces options.prefix tokens pieces (endings.Stops found)
  pub are_met : AreMet encoding (demands (items_of pieces) (endings.Stops found))
  pub are_parts : AreParts options encoding (items_of pieces) parts

-- The first demand of the tokens that is not met fails with this error.
pub record FailsTokens (tokens : List TokenView) (options : OptionsView) (encoding : Encoding) (error : ErrorView) : Type 0 where
  pub pieces : List Piece
  pub ending : Ending
  pub are_pieces : ArePieces options.prefix tokens pieces ending
  pub fails : FirstFails encoding (demands (items_of pieces) ending) error
