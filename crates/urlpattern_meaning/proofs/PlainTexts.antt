-- Texts of characters that begin no other token.
use Rattle.std.proofs.Common.{◌≡◌, ℕ, ◌+◌, ◌<◌, Bool, not, ◌&&◌, ltb, List, [], ◌∷◌, ◌++◌, length, refl, ap, subst, arith}
use Rattle.std.proofs.lemmas.Bool.{and_parts, not-true, ltb-true}
use Rattle.std.proofs.lemmas.List.{append-nil}
use Rattle.std.proofs.lemmas.Str.{encodes-IsAscii}
use Rattle.std.proofs.lemmas.Str.Ascii.{IsAscii-cons, IsAscii-nil}
use Rattle.std.specs.List.{list_all}
use Rattle.std.specs.Prelude.{IsTrue}
use Rattle.urlpattern_meaning.proofs.ReadingLaws.{text_pieces_one}
use Rattle.urlpattern_syntax.proofs.TextLemmas.{byte_len-append}
use Rattle.urlpattern_syntax.proofs.TokenExamples.{char, no, none, token}
use Rattle.urlpattern_syntax.specs.Options.{OptionsView}
use Rattle.urlpattern_syntax.specs.Parts.{PartView}
use Rattle.urlpattern_syntax.specs.Pieces.{ArePieces, BeginsWithKind, Ending, Piece, Stops, Text, is_placeholder}
use Rattle.urlpattern_syntax.specs.Reading.{AreParts, Encoding, Reads, items_of}
use Rattle.urlpattern_syntax.specs.Text.{BeginsAt, byte_len, is_among}
use Rattle.urlpattern_syntax.specs.Tokens.{AreTokens, IsCut, IsTokenOf, TokenView, end_of, is_ignored, marks}
use Rattle.urlpattern_syntax.specs.declared.tokenizer.TokenType.TheVariants.{Char}

-- An ASCII character that is neither a mark nor skipped.
abbrev pub is_plain_character : ℕ → Bool
is_plain_character c = ltb c 128 && (not (is_among marks c) && not (is_ignored c))

-- A token for each character, from an index on.
abbrev pub letters : ℕ → List ℕ → List TokenView
letters index [] = []
letters index (c ∷ text) = token Char index (c ∷ []) ∷ letters (index + 1) text

-- ---- the tokens of plain texts

one_byte : (c : ℕ) → c < 128 → byte_len (c ∷ []) ≡ 1
unfolding byte_len
one_byte c ascii = ap length (encodes-IsAscii (c ∷ []) (IsAscii-cons c [] ascii IsAscii-nil))

next_place : (whole rest : List ℕ) (c index : ℕ) → c < 128 → BeginsAt whole (c ∷ rest) index → BeginsAt whole rest (index + 1)
next_place whole rest c index ascii place = omega (arith, byte_len-append (c ∷ []) rest, one_byte c ascii)

-- Plain characters before a cut.
pub plain_cut : (Item : List ℕ → TokenView → List ℕ → Type 0) (whole : List ℕ) → ((text rest : List ℕ) (one : TokenView) → IsTokenOf whole text one rest → Item text one rest) →
    (text rest left : List ℕ) (index : ℕ) (tokens : List TokenView) → IsTrue (list_all is_plain_character text) → BeginsAt whole (text ++ rest) index →
    IsCut Item rest tokens left → IsCut Item (text ++ rest) (letters index text ++ tokens) left
plain_cut Item whole is_item [] rest left index tokens plain place cut = cut
plain_cut Item whole is_item (c ∷ text) rest left index tokens plain place cut =
    let parts = and_parts (is_plain_character c) (list_all is_plain_character text) plain in
    let ascii = and_parts (ltb c 128) _ parts.0 in
    let others = and_parts (not (is_among marks c)) (not (is_ignored c)) ascii.1 in (
      c ∷ text ++ rest,
      text ++ rest,
      none,
      is_item _ _ _ (char (not-true (is_among marks c) others.0) (not-true (is_ignored c) others.1) place),
      plain_cut Item whole is_item text rest left (index + 1) tokens parts.1 (next_place whole (text ++ rest) c index (ltb-true c 128 ascii.0) place) cut,
    )

-- ---- the pieces of plain texts

abbrev pub plain_pieces : List ℕ → List Piece
plain_pieces [] = []
plain_pieces (c ∷ text) = Text (c ∷ []) ∷ plain_pieces text

-- No placeholder follows.
before_none : (index : ℕ) (text : List ℕ) (tokens : List TokenView) → ¬ BeginsWithKind is_placeholder tokens → ¬ BeginsWithKind is_placeholder (letters index text ++ tokens)
before_none index [] tokens other = other
before_none index (c ∷ text) tokens other = no

pub plain_pieces_are : (point text : List ℕ) (index : ℕ) (tokens : List TokenView) (pieces : List Piece) (ending : Ending) → ¬ BeginsWithKind is_placeholder tokens →
    ArePieces point tokens pieces ending → ArePieces point (letters index text ++ tokens) (plain_pieces text ++ pieces) ending
plain_pieces_are point [] index tokens pieces ending other are = are
plain_pieces_are point (c ∷ text) index tokens pieces ending other are = (
  token Char index (c ∷ []) ∷ [],
  letters (index + 1) text ++ tokens,
  refl,
  (token Char index (c ∷ []), refl, refl, refl, λ is_char is_point. before_none (index + 1) text tokens other),
  plain_pieces_are point text (index + 1) tokens pieces ending other are,
)

-- ---- the parts of a text that is read

-- The parts of a text that is read are those of its pieces.
pub parts_of : {text : List ℕ} {options : OptionsView} {encoding : Encoding} {parts : List PartView} (tokens : List TokenView) (pieces : List Piece) (found : TokenView) →
    AreTokens text tokens → ArePieces options.prefix tokens pieces (Stops found) → Reads text options encoding parts → AreParts options encoding (items_of pieces) parts
parts_of {text} {options} {encoding} {parts} tokens pieces found are_tokens are_pieces reads =
    subst (λ others. AreParts options encoding (items_of others) parts)
    (text_pieces_one text options.prefix reads.tokens tokens reads.pieces pieces (Stops reads.found) (Stops found) reads.are_tokens are_tokens reads.are_pieces are_pieces).0
    reads.are_parts

-- A whole text of plain characters.
pub plain_tokens : (text : List ℕ) → IsTrue (list_all is_plain_character text) → AreTokens text (letters 0 text ++ end_of text ∷ [])
plain_tokens text plain =
    let nothing_left : IsCut (IsTokenOf text) (text ++ []) (letters 0 text ++ []) [] = plain_cut (IsTokenOf text) text (λ start rest one is. is) text [] [] 0 [] plain (rw append-nil (omega arith)) none in
    record { front = letters 0 text; cut = rw (append-nil text, append-nil (letters 0 text)) at nothing_left; all = refl }

pub plain_parts : (text : List ℕ) (options : OptionsView) (encoding : Encoding) (parts : List PartView) → IsTrue (list_all is_plain_character text) → Reads text options encoding parts → AreParts options encoding (items_of (plain_pieces text)) parts
plain_parts text options encoding parts plain reads =
    subst (λ pieces. AreParts options encoding (items_of pieces) parts) (append-nil (plain_pieces text))
    (parts_of (letters 0 text ++ end_of text ∷ []) (plain_pieces text ++ []) (end_of text) (plain_tokens text plain) (plain_pieces_are options.prefix text 0 (end_of text ∷ []) [] (Stops (end_of text)) no ([], refl, refl)) reads)
