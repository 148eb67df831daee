-- The values of the tokens of one kind, as the text spells them, and the properties of placeholders
-- made of such tokens.
use Rattle.std.proofs.Common.{◌≡◌, ◌≢◌, ℕ, List, [], ◌∷◌, ◌++◌, Option, sym, subst}
use Rattle.urlpattern_syntax.specs.declared.tokenizer.TokenType.{TokenType}
use Rattle.urlpattern_syntax.specs.declared.tokenizer.TokenType.TheVariants.{End}
use Rattle.urlpattern_syntax.specs.Pieces.{ArePieces, Ending, IsPiece, IsPlaceholderOf, PlaceholderKindView, Piece, Piece as pieces}
use Rattle.urlpattern_syntax.specs.Tokens.{AreTokens, IsCut, IsTokenOf, Spells, TokenView, end_of}

-- `Is` holds of the value of each token of this kind.
abbrev pub AllOfKind : TokenType → (List ℕ → Type 0) → List TokenView → Type 0
AllOfKind kind Is [] = Unit {0}
AllOfKind kind Is (token ∷ tokens) = (token.kind ≡ kind → Is token.value) × AllOfKind kind Is tokens

module _ (kind : TokenType) (Is : List ℕ → Type 0) where
  pub AllOfKind-left : (xs ys : List TokenView) → AllOfKind kind Is (xs ++ ys) → AllOfKind kind Is xs
  AllOfKind-left [] ys h = tt
  AllOfKind-left (x ∷ xs) ys h = (h.0, AllOfKind-left xs ys h.1)

  pub AllOfKind-right : (xs ys : List TokenView) → AllOfKind kind Is (xs ++ ys) → AllOfKind kind Is ys
  AllOfKind-right [] ys h = h
  AllOfKind-right (x ∷ xs) ys h = AllOfKind-right xs ys h.1

  pub AllOfKind-middle : (front middle back : List TokenView) → AllOfKind kind Is (front ++ middle ++ back) → AllOfKind kind Is middle
  AllOfKind-middle front middle back h = AllOfKind-right front middle (AllOfKind-left (front ++ middle) back h)

  cut_of_kind : End ≢ kind → ((value text : List ℕ) → Spells kind value text → Is value) → (whole text left : List ℕ) (tokens : List TokenView)
      → IsCut (IsTokenOf whole) text tokens left → AllOfKind kind Is (tokens ++ end_of whole ∷ [])
  cut_of_kind other spelled whole text left [] h = (λ k. absurd (other k), tt)
  cut_of_kind other spelled whole text left (token ∷ tokens) h =
      let lexed = h.3.lexed in (
        λ k. spelled token.value lexed.spelling (subst (λ kind. Spells kind token.value lexed.spelling) k lexed.spells),
        cut_of_kind other spelled whole h.1 left tokens h.4,
      )

  pub text_of_kind : End ≢ kind → ((value text : List ℕ) → Spells kind value text → Is value) → (text : List ℕ) (tokens : List TokenView)
      → AreTokens text tokens → AllOfKind kind Is tokens
  text_of_kind other spelled text tokens h = subst (AllOfKind kind Is) (sym h.all) (cut_of_kind other spelled text text [] h.front h.cut)

-- ---- the placeholders of pieces

-- `Has` holds of the piece's placeholder, if it has one.
abbrev pub PieceHas : (Option (List ℕ) → PlaceholderKindView → Type 0) → Piece → Type 0
PieceHas Has (pieces.Text text) = Unit {0}
PieceHas Has (pieces.TextGroup text modifier) = Unit {0}
PieceHas Has (pieces.Bare prefix placeholder modifier) = Has placeholder.name placeholder.matched
PieceHas Has (pieces.Group before placeholder after modifier) = Has placeholder.name placeholder.matched

abbrev pub PiecesHave : (Option (List ℕ) → PlaceholderKindView → Type 0) → List Piece → Type 0
PiecesHave Has [] = Unit {0}
PiecesHave Has (piece ∷ rest) = PieceHas Has piece × PiecesHave Has rest

-- A property of each placeholder of tokens with such values.
module _ (kind : TokenType) (Is : List ℕ → Type 0) (Has : Option (List ℕ) → PlaceholderKindView → Type 0)
    (given : (tokens : List TokenView) (name : Option (List ℕ)) (what : PlaceholderKindView) → AllOfKind kind Is tokens → IsPlaceholderOf tokens name what → Has name what) where
  piece_has : (point : List ℕ) (tokens rest : List TokenView) (piece : Piece) → AllOfKind kind Is tokens → IsPiece point tokens piece rest
      → PieceHas Has piece
  piece_has point tokens rest (pieces.Text text) h is = tt
  piece_has point tokens rest (pieces.TextGroup text modifier) h is = tt
  piece_has point tokens rest (pieces.Bare prefix placeholder modifier) h is =
      given is.middle placeholder.name placeholder.matched
      (AllOfKind-middle kind Is is.front is.middle is.back (subst (AllOfKind kind Is) is.cut h)) is.is_placeholder
  piece_has point tokens rest (pieces.Group before placeholder after modifier) h is =
      let braces = is.1 in
      let filled = is.2 in
      let inner : AllOfKind kind Is is.0
      = AllOfKind-left kind Is is.0 (braces.closing ∷ braces.back) (subst (AllOfKind kind Is) braces.cut h).1
      in
      given filled.middle placeholder.name placeholder.matched
      (AllOfKind-middle kind Is filled.front filled.middle filled.back (subst (AllOfKind kind Is) filled.cut inner)) filled.is_placeholder

  pub pieces_have : (point : List ℕ) (tokens : List TokenView) (list : List Piece) (ending : Ending) → AllOfKind kind Is tokens
      → ArePieces point tokens list ending → PiecesHave Has list
  pieces_have point tokens [] ending h are = tt
  pieces_have point tokens (piece ∷ list) ending h are =
      let all = subst (AllOfKind kind Is) are.2 h in (
        piece_has point are.0 are.1 piece (AllOfKind-left kind Is are.0 are.1 all) are.3,
        pieces_have point are.1 list ending (AllOfKind-right kind Is are.0 are.1 all) are.4,
      )
