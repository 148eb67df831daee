-- The reader of a pattern's pieces: the tokens that it consumes, the tokens that are left, and the
-- values of its pieces and of the list of parts.
use Rattle.std.specs.Prelude.{◌≡◌, ◌≢◌, ◌<◌, ◌≤◌, ◌+◌, ℕ, ◌⊎◌, List, [], ◌∷◌, ◌++◌, length, decimal, Contains, IsTrue, ◌^◌, ◌↔◌}
use Rattle.std.specs.Str.{chars, IsUtf8}
use Rattle.std.specs.Borrow.{Bor}
use Rattle.urlpattern_parser.specs.declared.parser.pieces.{PlaceholderKind.PlaceholderKind as MatchedValue, Next.Next, Piece.Piece as PieceValue, Placeholder.Placeholder as PlaceholderValue, Reader.Reader}
use Rattle.urlpattern_syntax.specs.declared.tokenizer.TokenType.TheVariants.{End}
use Rattle.urlpattern_parser.specs.declared.parser.part_list.PartList.{PartList}
use Rattle.urlpattern_syntax.specs.Cursors.{AreTokensAfter, IsPlace, tokens_left}
use Rattle.urlpattern_parser.specs.CursorTexts.{cursor_rest, cursor_text}
use Rattle.urlpattern_syntax.specs.Errors.{ErrorView}
use Rattle.urlpattern_syntax.specs.declared.error.Error.{Error}
use Rattle.urlpattern_syntax.specs.Errors.{MemoryOr}
use Rattle.urlpattern_parser.specs.declared.parser.given_names.GivenNames.{GivenNames}
use Rattle.urlpattern_parser.specs.GivenNames.{has_name}
use Rattle.urlpattern_syntax.specs.Parsing.{IsTokenList, IsModifierSpelled, IsNameSpelled, BeginsAsName, BeginsWithPlaceholder, IsPieceNamed, BeginsWithCharacters, BeginsWithRow, BeginsWithClose, BeginsWithPiece, HasEndingAt, PartListView}
use Rattle.urlpattern_syntax.specs.Parts.{parts_view}
use Rattle.urlpattern_syntax.specs.declared.parser.PartModifier.{PartModifier}
use Rattle.urlpattern_syntax.specs.Text.{option_text, text_of}
use Rattle.urlpattern_syntax.specs.Pieces.{Piece, Placeholder, PlaceholderKindView, Ending, IsPrefixOf}
use Rattle.urlpattern_syntax.specs.Reading.{Item, Capture, name_or}
use Rattle.urlpattern_syntax.specs.Tokens.{AreTokens, ReportsFault, TokenView, token_view}

-- The whole text that the reader reads.
abbrev pub reader_text : Reader → List ℕ
reader_text reader = cursor_text reader.cursor

-- An upper bound of the number of tokens that are left, without End.
abbrev pub reader_left : Reader → ℕ
reader_left reader = length reader.cursor.rest.now + tokens_left reader.token.kind

-- `tokens` are those that the reader has not consumed: its first token, and the tokens of the rest
-- of the text, if the first is not End.
pub record HasTokensLeft (reader : Reader) (tokens : List TokenView) : Type 0 where
  pub more : List TokenView
  pub first : tokens ≡ token_view reader.token ∷ more
  pub closed : IsTokenList tokens
  pub others : ((reader.token.kind ≡ End) × (more ≡ []))
      ⊎ ((reader.token.kind ≢ End)
      × AreTokensAfter (reader_text reader) (cursor_rest reader.cursor) more)

-- The reader is at a place between the tokens of its text, and its first token, which ends before
-- that place, has the value of a modifier or a name if it is one.
pub record IsAtPlace (reader : Reader) : Type 0 where
  pub place : IsPlace (reader_text reader) (cursor_rest reader.cursor)
  pub mark : IsModifierSpelled (token_view reader.token)
  pub name : IsNameSpelled (token_view reader.token)

-- The reader `old` consumes tokens and becomes `new`. `Is` relates the tokens that are left in
-- `old` to those that are left in `new`.
pub record Consumes (old new : Reader) (Is : (tokens rest : List TokenView) → Type 0) : Type 0 where
  pub whole : new.cursor.input.now ≡ old.cursor.input.now
  pub stands : IsAtPlace new
  pub left : reader_left new ≤ reader_left old
  pub gives : (rest : List TokenView) → HasTokensLeft new rest
      → (tokens : List TokenView) × HasTokensLeft old tokens × Is tokens rest

-- The reader has consumed no token of the text.
pub record StartsText (text : List ℕ) (reader : Reader) : Type 0 where
  pub whole : reader_text reader ≡ text
  pub stands : IsAtPlace reader
  pub all : (tokens : List TokenView) → HasTokensLeft reader tokens → AreTokens text tokens

-- What a placeholder matches, as a value of the specification.
abbrev pub matched_view : MatchedValue → PlaceholderKindView
matched_view MatchedValue.Segment = PlaceholderKindView.Segment
matched_view (MatchedValue.Custom body) = PlaceholderKindView.Custom (chars body.now)
matched_view MatchedValue.Anything = PlaceholderKindView.Anything

-- A placeholder, as a value of the specification.
abbrev pub placeholder_view : PlaceholderValue → Placeholder
placeholder_view value = record {
  name = option_text value.name;
  matched = matched_view value.matched;
}

-- A piece, as a value of the specification.
abbrev pub piece_view : PieceValue → Piece
piece_view (PieceValue.Text text) = Piece.Text (chars text.now)
piece_view (PieceValue.Bare prefix placeholder modifier) =
    Piece.Bare (chars prefix.now) (placeholder_view placeholder) modifier
piece_view (PieceValue.TextGroup text modifier) = Piece.TextGroup (text_of text) modifier
piece_view (PieceValue.Group before placeholder after modifier) =
    Piece.Group (text_of before) (placeholder_view placeholder) (text_of after) modifier

-- The item of a placeholder between the texts `before` and `after`, where `number` earlier
-- placeholders have no name.
abbrev pub group_item : (before : List ℕ) → PlaceholderValue → (after : List ℕ) → PartModifier → ℕ
    → Item
group_item before value after modifier number =
    Capture before (name_or (option_text value.name) number) (matched_view value.matched) after
    modifier

-- If a piece with a name was found, the name begins as a name in a pattern does.
abbrev pub IsNextNamed : Next → Type 0
IsNextNamed (Next.Piece piece) = IsPieceNamed (piece_view piece)
IsNextNamed other = Unit {0}

-- `Next` says what `tokens` begin with under the prefix code point `point`: a piece or characters
-- before `rest`, or an ending, whose token is the first of `rest`.
abbrev pub IsNext : (point : List ℕ) → (tokens : List TokenView) → Next
    → (rest : List TokenView) → Type 0
IsNext point tokens (Next.Piece piece) rest = BeginsWithPiece point tokens (piece_view piece) rest
IsNext point tokens (Next.Characters first more) rest =
    BeginsWithRow tokens (chars first.now ++ chars more.now) rest
IsNext point tokens Next.Stops rest = HasEndingAt tokens Ending.Stops rest
IsNext point tokens Next.LacksClose rest = HasEndingAt tokens Ending.LacksClose rest

-- `Next` says what the tokens of `prefix` and then `tokens` begin with: `IsNext` holds of all these
-- tokens, under each prefix code point that allows this prefix.
abbrev pub IsNextAfter : (prefix : List ℕ) → (tokens : List TokenView) → Next
    → (rest : List TokenView) → Type 0
IsNextAfter prefix tokens next rest =
    (point : List ℕ) (before : List TokenView) → IsPrefixOf point before prefix
    → IsNext point (before ++ tokens) next rest

-- The reader `old` consumes the placeholder and becomes `new`.
abbrev pub ConsumesPlaceholder : (old new : Reader) → PlaceholderValue → Type 0
ConsumesPlaceholder old new value =
    Consumes old new (λ tokens rest. BeginsWithPlaceholder tokens (placeholder_view value) rest)

-- The reader `old` consumes its first token, a character, and the characters `more`, which may be
-- empty, and becomes `new`.
abbrev pub ConsumesCharacters : (old new : Reader) → (more : Bor (List ℕ)) → Type 0
ConsumesCharacters old new more =
    Consumes old new (λ tokens rest.
    BeginsWithCharacters tokens (token_view old.token) (chars more.now) rest)

-- The reader `old` consumes the closing brace of a group and its modifier, and becomes `new`.
abbrev pub ConsumesClose : (old new : Reader) → PartModifier → Type 0
ConsumesClose old new modifier =
    Consumes old new (λ tokens rest. BeginsWithClose tokens modifier rest)

-- If a piece or characters were found, and so consumed, `new` is less than `old`. The two are the
-- upper bounds of the number of tokens left (`reader_left`), after and before.
abbrev pub IsShorter : (new old : ℕ) → Next → Type 0
IsShorter new old (Next.Piece piece) = new < old
IsShorter new old (Next.Characters first more) = new < old
IsShorter new old other = Unit {0}

-- The list of parts, as a value of the specification.
abbrev pub part_list_view : PartList → PartListView
part_list_view list = record {
  parts = parts_view list.parts.items;
  pending = text_of list.pending_fixed_value;
  number = list.next_numeric_name;
}

-- `names` are the names that are used: `given` has exactly those that the pattern gives, and no
-- number from `number` on, below 2^64, is among them.
pub record KnowsNames (names : List (List ℕ)) (given : GivenNames) (number : ℕ) : Type 0 where
  pub named : (name : List ℕ) → IsUtf8 name → BeginsAsName (chars name)
      → Contains names (chars name)
      ↔ IsTrue (has_name given name)
  pub numbered : (other : ℕ) → number ≤ other → other < 2 ^ 64 → ¬ Contains names (decimal other)

-- The error is that memory ran out, or the first fault of the text, or, where the rest of the text
-- has no fault, one of which `Is` holds.
abbrev pub FaultOr : Reader → (ErrorView → Type 0) → Error → Type 0
FaultOr reader Is error =
    ReportsFault (reader_text reader) error
    ⊎ (((tokens : List TokenView) × HasTokensLeft reader tokens) × MemoryOr Is error)
