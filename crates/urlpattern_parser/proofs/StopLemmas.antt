-- Lemmas on the place where the pieces of a text end, for any tokens that are left.
use Rattle.std.proofs.Common.{◌≡◌, ℕ, List, [], ◌∷◌, ◌++◌, refl, sym, ap, ◌∙◌, subst, append_assoc}
use Rattle.std.specs.Prelude.{IsTrue}
use Rattle.std.specs.List.{list_all}
use Rattle.std.proofs.lemmas.Bool.{and_parts}
use Rattle.urlpattern_parser.specs.declared.parser.pieces.Reader.{Reader}
use Rattle.urlpattern_syntax.specs.Parsing.{BeginsWithPiece, BeginsWithRow, HasEndingAt}
use Rattle.urlpattern_parser.specs.Readers.{HasTokensLeft, StartsText, Consumes}
use Rattle.urlpattern_syntax.specs.Pieces.{ArePieces, BeginsWithKind, Ending, IsEnding, Piece, is_text, Piece as kinds_of_piece}
use Rattle.urlpattern_syntax.specs.Stops.{IsStopOf, stopping_token}
use Rattle.urlpattern_syntax.specs.Tokens.{AreTokens, TokenView, token_view}
use Rattle.urlpattern_parser.proofs.PartListLemmas.{no_placeholder, row_goes_on}

-- The tokens of the text up to the rest are pieces.
pub record Reached (point text : List ℕ) (rest : List TokenView) : Type 0 where
  pub tokens : List TokenView
  pub front : List TokenView
  pub are_tokens : AreTokens text tokens
  pub cut : tokens ≡ front ++ rest
  pub goes_on : (more : List Piece) (ending : Ending) → ArePieces point rest more ending → (all : List Piece) × ArePieces point tokens all ending

-- For any tokens that are left, the tokens of the text before them are pieces.
abbrev pub ReachesBy : (point text : List ℕ) → Reader → Type 0
ReachesBy point text reader = (rest : List TokenView) → HasTokensLeft reader rest → Reached point text rest

-- A row of texts before a text is pieces.
row_pieces : (point : List ℕ) (row behind : List TokenView) → IsTrue (list_all (λ (token : TokenView). is_text token.kind) row) → BeginsWithKind is_text behind →
    (more : List Piece) (ending : Ending) → ArePieces point behind more ending → (all : List Piece) × ArePieces point (row ++ behind) all ending
row_pieces point [] behind texts next more ending h = (more, h)
row_pieces point (token ∷ row) behind texts next more ending h =
    let both = and_parts _ _ texts in
    let rest = row_pieces point row behind both.1 next more ending h in
    (kinds_of_piece.Text token.value ∷ rest.0, (token ∷ [], row ++ behind, refl, (token, refl, both.0, refl, λ k v. no_placeholder (row ++ behind) (row_goes_on row behind both.1 next)), rest.1))

module _ (point text : List ℕ) where
  pub nothing_reached : (reader : Reader) → StartsText text reader → ReachesBy point text reader
  nothing_reached reader s rest g = record { tokens = rest; front = []; are_tokens = s.all rest g; cut = refl; goes_on = λ more ending h. (more, h) }

  module _ (old new : Reader) (reached : ReachesBy point text old) where
    -- The next piece.
    pub piece_reached : (piece : Piece) → Consumes old new (λ tokens rest. BeginsWithPiece point tokens piece rest) → ReachesBy point text new
    piece_reached piece takes rest g =
        let t = takes.gives rest g in
        let r = reached t.0 t.1 in
        record {
          tokens = r.tokens;
          front = r.front ++ t.2.0;
          are_tokens = r.are_tokens;
          cut = r.cut ∙ ap (λ x. r.front ++ x) t.2.1 ∙ sym (append_assoc r.front t.2.0 rest);
          goes_on = λ more ending h. r.goes_on (piece ∷ more) ending (t.2.0, rest, t.2.1, t.2.2, h);
        }

    -- The next row of characters.
    pub row_reached : (characters : List ℕ) → Consumes old new (λ tokens rest. BeginsWithRow tokens characters rest) → ReachesBy point text new
    row_reached characters takes rest g =
        let t = takes.gives rest g in
        let r = reached t.0 t.1 in
        let row = t.2 in
        record {
          tokens = r.tokens;
          front = r.front ++ row.row;
          are_tokens = r.are_tokens;
          cut = r.cut ∙ ap (λ x. r.front ++ x) row.cut ∙ sym (append_assoc r.front row.row rest);
          goes_on = λ more ending h.
              let all = row_pieces point row.row rest row.are_texts.0 row.goes_on more ending h in
              r.goes_on all.0 ending (subst (λ x. ArePieces point x all.0 ending) (sym row.cut) all.1);
        }

    -- The token with which no piece begins.
    pub stop_reached : (ending : TokenView → Ending) → ((found : TokenView) → found ≡ stopping_token (ending found)) → Consumes old new (λ tokens rest. HasEndingAt tokens ending rest) →
        (tokens : List TokenView) × HasTokensLeft new tokens → IsStopOf text point (token_view old.token) (token_view new.token)
    stop_reached ending is takes left =
        let t = takes.gives left.0 left.1 in
        let r = reached t.0 t.1 in
        let same : t.2.0 ≡ token_view new.token = let f = sym t.2.2 ∙ left.1.first in cc f in
        let ends : IsEnding t.0 (ending (token_view new.token)) = subst (λ found. IsEnding t.0 (ending found)) same t.2.3 in
        let all = r.goes_on [] (ending (token_view new.token)) ends in
        record {
          tokens = r.tokens;
          front = r.front;
          more = t.1.more;
          pieces = all.0;
          ending = ending (token_view new.token);
          are_tokens = r.are_tokens;
          cut = r.cut ∙ ap (λ x. r.front ++ x) t.1.first;
          are_pieces = all.1;
          is_ending = subst (λ x. IsEnding x (ending (token_view new.token))) t.1.first ends;
          is_found = is (token_view new.token);
        }
