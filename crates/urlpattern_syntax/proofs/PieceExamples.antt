-- Worked examples of pieces, and the steps by which examples cut a list of tokens.
use Rattle.std.proofs.Common.{◌≡◌, ℕ, List, [], ◌∷◌, ◌++◌, refl, sym, ap, ◌∙◌, take, drop, append_assoc, inl, inr, Some, None}
use Rattle.std.proofs.lemmas.List.{take-append-drop}
use Rattle.std.specs.Prelude.{codes}
use Rattle.urlpattern_syntax.specs.declared.parser.PartModifier.{PartModifier}
use Rattle.urlpattern_syntax.specs.declared.parser.PartModifier.TheVariants as modifiers
use Rattle.urlpattern_syntax.specs.declared.tokenizer.TokenType.TheVariants.{Open, Close, Name, Char, Asterisk, End}
use Rattle.urlpattern_syntax.specs.Pieces.{Piece, Text, Bare, Placeholder, Segment, Anything, Ending, Stops, LacksClose, ArePieces, IsPiece, IsEnding, IsBare, IsBraced, IsFilled, IsPrefixOf, IsPlaceholderOf, IsModifier, TakesRegexp, TakesModifier, AreTexts}
use Rattle.urlpattern_syntax.specs.Tokens.{TokenView}
use Rattle.urlpattern_syntax.proofs.TokenExamples.{token, no}

-- ---- steps

-- Pieces one after the other, with the number of tokens of each, and where they end.
pub data PieceCut (point : List ℕ) (ending : Ending) : List TokenView → List Piece → Type 0 where
  ends : {tokens : List TokenView} → IsEnding tokens ending → PieceCut point ending tokens []
  piece : {tokens : List TokenView} {first : Piece} {pieces : List Piece} (n : ℕ) → IsPiece point (take n tokens) first (drop n tokens) → PieceCut point ending (drop n tokens) pieces → PieceCut point ending tokens (first ∷ pieces)

-- The pieces of a cut are those of the tokens.
pub pieces_of : {point : List ℕ} {ending : Ending} {tokens : List TokenView} {pieces : List Piece} → PieceCut point ending tokens pieces → ArePieces point tokens pieces ending
pieces_of (ends is_ending) = is_ending
pieces_of (piece {tokens} n is_piece more) = (take n tokens, drop n tokens, sym (take-append-drop n tokens), is_piece, pieces_of more)

-- A list is its first `i` elements, the next `j`, and the others.
pub cut_twice : (i j : ℕ) (tokens : List TokenView) → tokens ≡ take i tokens ++ take j (drop i tokens) ++ drop j (drop i tokens)
cut_twice i j tokens =
    sym (take-append-drop i tokens) ∙ ap (λ rest. take i tokens ++ rest) (sym (take-append-drop j (drop i tokens)))
    ∙ sym (append_assoc (take i tokens) (take j (drop i tokens)) (drop j (drop i tokens)))

-- A placeholder of `j` tokens after a prefix of `i` tokens.
pub bare : {point prefix : List ℕ} {tokens rest : List TokenView} {placeholder : Placeholder} {modifier : PartModifier} (i j : ℕ) →
    IsPrefixOf point (take i tokens) prefix → IsPlaceholderOf (take j (drop i tokens)) placeholder.name placeholder.matched →
    IsModifier (drop j (drop i tokens)) modifier → TakesRegexp placeholder.matched (drop j (drop i tokens) ++ rest) → TakesModifier modifier rest →
    IsBare point tokens prefix placeholder modifier rest
bare {tokens} i j is_prefix is_placeholder is_modifier takes_regexp takes_modifier = record {
  front = take i tokens;
  middle = take j (drop i tokens);
  back = drop j (drop i tokens);
  cut = cut_twice i j tokens;
  is_prefix = is_prefix;
  is_placeholder = is_placeholder;
  is_modifier = is_modifier;
  takes_regexp = takes_regexp;
  takes_modifier = takes_modifier;
}

-- Tokens in braces.
pub braced : {tokens inner rest : List TokenView} {modifier : PartModifier} (opening closing : TokenView) (back : List TokenView) →
    tokens ≡ opening ∷ inner ++ closing ∷ back → opening.kind ≡ Open → closing.kind ≡ Close → IsModifier back modifier → TakesModifier modifier rest →
    IsBraced tokens inner modifier rest
braced opening closing back cut is_open is_close is_modifier takes_modifier = record {
  opening = opening;
  closing = closing;
  back = back;
  cut = cut;
  is_open = is_open;
  is_close = is_close;
  is_modifier = is_modifier;
  takes_modifier = takes_modifier;
}

-- A placeholder of `j` tokens after texts of `i` tokens.
pub filled : {inner rest : List TokenView} {before after : List ℕ} {placeholder : Placeholder} (i j : ℕ) →
    AreTexts (take i inner) before → IsPlaceholderOf (take j (drop i inner)) placeholder.name placeholder.matched →
    TakesRegexp placeholder.matched (drop j (drop i inner) ++ rest) → AreTexts (drop j (drop i inner)) after →
    IsFilled inner before placeholder after rest
filled {inner} i j before is_placeholder takes_regexp after = record {
  front = take i inner;
  middle = take j (drop i inner);
  back = drop j (drop i inner);
  cut = cut_twice i j inner;
  are_texts_before = before;
  is_placeholder = is_placeholder;
  takes_regexp = takes_regexp;
  are_texts_after = after;
}

-- ---- examples

-- The pattern `{a{b}}`: the inner brace is at the place of the closing one.
pub nested : ArePieces [] (
    token Open 0 (codes "{") ∷ token Char 1 (codes "a") ∷ token Open 2 (codes "{") ∷ token Char 3 (codes "b") ∷ token Close 4 (codes "}")
    ∷ token Close 5 (codes "}") ∷ token End 6 [] ∷ []) [] (LacksClose (token Open 2 (codes "{")))
nested = (_, token Char 1 (codes "a") ∷ [], _, refl, refl, (no, inl (codes "a", (refl, refl), no)), λ e. cc)

-- The pattern `:x**`: the first asterisk is the modifier of the name, the second a placeholder.
abbrev pub starred_tokens : List TokenView
starred_tokens =
    token Name 0 (codes "x") ∷ token Asterisk 2 (codes "*") ∷ token Asterisk 3 (codes "*") ∷ token End 4 [] ∷ []

abbrev pub starred_pieces : List Piece
starred_pieces =
    Bare [] (record { name = Some (codes "x"); matched = Segment }) modifiers.ZeroOrMore
    ∷ Bare [] (record { name = None; matched = Anything }) modifiers.None ∷ []

pub starred_cut : PieceCut [] (Stops (token End 4 [])) starred_tokens starred_pieces
starred_cut =
    piece 2 (bare 0 1 (inl (refl, refl)) (refl, refl) refl no tt)
    (piece 1 (bare 0 1 (inl (refl, refl)) refl refl tt no) (ends (_, refl, refl)))

pub starred : ArePieces [] starred_tokens starred_pieces (Stops (token End 4 []))
starred = pieces_of starred_cut

-- The pattern `/:id.html`: the slash before a name is its prefix, the characters after it are
-- texts.
abbrev pub page_tokens : List TokenView
page_tokens =
    token Char 0 (codes "/") ∷ token Name 1 (codes "id") ∷ token Char 4 (codes ".") ∷ token Char 5 (codes "h")
    ∷ token Char 6 (codes "t") ∷ token Char 7 (codes "m") ∷ token Char 8 (codes "l") ∷ token End 9 [] ∷ []

abbrev pub page_pieces : List Piece
page_pieces =
    Bare (codes "/") (record { name = Some (codes "id"); matched = Segment }) modifiers.None
    ∷ Text (codes ".") ∷ Text (codes "h") ∷ Text (codes "t") ∷ Text (codes "m") ∷ Text (codes "l") ∷ []

pub page_cut : PieceCut (codes "/") (Stops (token End 9 [])) page_tokens page_pieces
page_cut =
    piece 2 (bare 1 1 (inr (refl, refl, refl)) (refl, refl) refl no no) (piece 1 (_, refl, refl, refl, λ k v. no)
    (piece 1 (_, refl, refl, refl, λ k v. no) (piece 1 (_, refl, refl, refl, λ k v. no)
    (piece 1 (_, refl, refl, refl, λ k v. no) (piece 1 (_, refl, refl, refl, λ k v. no) (ends (_, refl, refl)))))))

pub page : ArePieces (codes "/") page_tokens page_pieces (Stops (token End 9 []))
page = pieces_of page_cut
