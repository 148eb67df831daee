-- The parser step by step: the tokens of a step, the tokens left, and what is added to the list of
-- parts.
use Rattle.std.specs.Prelude.{◌≡◌, ◌≢◌, ◌+◌, ℕ, ◌⊎◌, List, [], ◌∷◌, ◌++◌, map, codes, Option, Some, None}
use Rattle.urlpattern_syntax.specs.declared.tokenizer.TokenType.TheVariants.{Close, Name, OtherModifier, End}
use Rattle.urlpattern_syntax.specs.Errors.{Error, ErrorView, error_view}
pub use Rattle.urlpattern_syntax.specs.Errors.{MemoryOr}
use Rattle.urlpattern_syntax.specs.{Options.OptionsView, RegexpText.group_names}
use Rattle.urlpattern_syntax.specs.Parts.{PartModifier, PartView}
use Rattle.urlpattern_syntax.specs.Text.{BeginsWith, is_name_start}
use Rattle.urlpattern_syntax.specs.Pieces.{Piece, Placeholder, Ending, IsPiece, IsEnding, IsPlaceholderOf, IsModifier, TakesModifier, TakesRegexp, AreTexts, BeginsWithKind, is_text}
use Rattle.urlpattern_syntax.specs.Reading.{AreMet, AreParts, Demand, Encode, Encoding, FirstFails, Item, Fixed, Capture, NewName, fixed_text_demands}
use Rattle.urlpattern_syntax.specs.Tokens.{Token, TokenView, token_view}

-- The views of a list of tokens.
abbrev pub views : List Token → List TokenView
views tokens = map token_view tokens

-- If the token is an OtherModifier, its value is `+` or `?`.
abbrev pub IsModifierSpelled : TokenView → Type 0
IsModifierSpelled token =
    token.kind ≡ OtherModifier → (token.value ≡ codes "+") ⊎ (token.value ≡ codes "?")

-- The name begins with a character that may begin a name. The number of a group without a name does
-- not.
abbrev pub BeginsAsName : List ℕ → Type 0
BeginsAsName name = BeginsWith is_name_start name

-- If the token is a Name, its value begins with a character that may begin a name.
abbrev pub IsNameSpelled : TokenView → Type 0
IsNameSpelled token = token.kind ≡ Name → BeginsAsName token.value

-- The tokens are a whole list: the last is End, no other is, and the value of each OtherModifier is
-- `+` or `?`.
abbrev pub IsTokenList : List TokenView → Type 0
IsTokenList [] = ⊥
IsTokenList (token ∷ []) = token.kind ≡ End
IsTokenList (token ∷ next ∷ tokens) =
    (token.kind ≢ End) × IsModifierSpelled token × IsTokenList (next ∷ tokens)

-- `tokens` begin with a placeholder of maximal length, and `rest` follows, a whole list if `tokens`
-- are.
pub record BeginsWithPlaceholder (tokens : List TokenView) (placeholder : Placeholder)
    (rest : List TokenView) : Type 0 where
  pub front : List TokenView
  pub cut : tokens ≡ front ++ rest
  pub is_placeholder : IsPlaceholderOf front placeholder.name placeholder.matched
  pub takes_regexp : TakesRegexp placeholder.matched rest
  pub closed : IsTokenList tokens → IsTokenList rest

-- `tokens` begin with the token of a modifier, or with no modifier for `None`, and `rest`, a whole
-- list, follows.
pub record BeginsWithModifier (tokens : List TokenView) (modifier : PartModifier)
    (rest : List TokenView) : Type 0 where
  pub front : List TokenView
  pub cut : tokens ≡ front ++ rest
  pub is_modifier : IsModifier front modifier
  pub takes_modifier : TakesModifier modifier rest
  pub closed : IsTokenList rest

-- ---- names and runs of texts

-- The name, if there is a name, begins with a character that may begin a name, as each name that a
-- pattern gives does.
abbrev pub IsNameGiven : Option (List ℕ) → Type 0
IsNameGiven None = Unit {0}
IsNameGiven (Some name) = BeginsAsName name

-- The name in the piece, if there is a name, begins with a character that may begin a name, as each
-- name that a pattern gives does.
abbrev pub IsPieceNamed : Piece → Type 0
IsPieceNamed (Piece.Bare prefix placeholder modifier) = IsNameGiven placeholder.name
IsPieceNamed (Piece.Group before placeholder after modifier) = IsNameGiven placeholder.name
IsPieceNamed other = Unit {0}

-- `tokens` are `first`, literal characters with the text `more`, and `rest`. Unless `more` is
-- empty, `rest` begins with a further literal character.
pub record BeginsWithCharacters (tokens : List TokenView) (first : TokenView) (more : List ℕ)
    (rest : List TokenView) : Type 0 where
  pub row : List TokenView
  pub cut : tokens ≡ first ∷ row ++ rest
  pub are_texts : AreTexts row more
  pub none : more ≡ [] → row ≡ []
  pub goes_on : (more ≡ []) ⊎ BeginsWithKind is_text rest

-- `tokens` are literal characters with the text `text`, and `rest`, which begins with a further
-- literal character.
pub record BeginsWithRow (tokens : List TokenView) (text : List ℕ) (rest : List TokenView) : Type 0
  where
    pub row : List TokenView
    pub cut : tokens ≡ row ++ rest
    pub are_texts : AreTexts row text
    pub goes_on : BeginsWithKind is_text rest

-- `tokens` are literal characters with the text `text`, and `rest`, which does not begin with a
-- literal character.
pub record BeginsWithTexts (tokens : List TokenView) (text : List ℕ) (rest : List TokenView) : Type
    0 where
  pub front : List TokenView
  pub cut : tokens ≡ front ++ rest
  pub are_texts : AreTexts front text
  pub all : ¬ BeginsWithKind is_text rest

-- `tokens` begin with the Close of a group and the group's modifier, and `rest` follows.
pub record BeginsWithClose (tokens : List TokenView) (modifier : PartModifier)
    (rest : List TokenView) : Type 0 where
  pub closing : TokenView
  pub behind : List TokenView
  pub cut : tokens ≡ closing ∷ behind
  pub is_close : closing.kind ≡ Close
  pub begins : BeginsWithModifier behind modifier rest

-- The tokens begin with the piece, and `rest` follows. `point` is the prefix code point.
abbrev pub BeginsWithPiece : (point : List ℕ) → List TokenView → Piece
    → (rest : List TokenView) → Type 0
BeginsWithPiece point tokens piece rest =
    (front : List TokenView) × (tokens ≡ front ++ rest) × IsPiece point front piece rest

-- The tokens, which follow the last piece, have an ending, whose token is the first of `rest`.
-- `ending`, which is `Stops` or `LacksClose`, says which of the two the ending is.
abbrev pub HasEndingAt : List TokenView → (TokenView → Ending) → (rest : List TokenView) → Type 0
HasEndingAt tokens ending rest =
    (found : TokenView) × (more : List TokenView)
    × (rest ≡ found ∷ more)
    × IsEnding tokens (ending found)

-- ---- the parts read

-- The state of reading: the parts made, the literal text that is not a part yet, and the number of
-- placeholders without a name.
pub record PartListView : Type 0 where
  pub parts : List PartView
  pub pending : List ℕ
  pub number : ℕ

-- The demands of the items, that is, what has to be met for them to become parts, after groups with
-- the names `earlier`. The demand of an ending is not among them.
abbrev pub item_demands : List (List ℕ) → List Item → List Demand
item_demands earlier [] = []
item_demands earlier (Fixed text modifier ∷ items) =
    fixed_text_demands text ++ item_demands earlier items
item_demands earlier (Capture prefix name match suffix modifier ∷ items) =
    NewName earlier name ∷ Encode prefix ∷ Encode suffix ∷ item_demands (earlier ++ name ∷ []) items

-- The pending text as a fixed text, or no item if it is empty.
abbrev pub pending_items : List ℕ → List Item
pending_items [] = []
pending_items (c ∷ text) = Fixed (c ∷ text) PartModifier.None ∷ []

-- `new` has the parts of `old` and the parts of the items, whose demands are met, and no pending
-- text.
pub record AddsParts (options : OptionsView) (encoding : Encoding) (old : PartListView)
    (items : List Item) (new : PartListView) : Type 0 where
  pub added : List PartView
  pub parts : new.parts ≡ old.parts ++ added
  pub are_parts : AreParts options encoding items added
  pub are_met : AreMet encoding (item_demands (group_names old.parts) items)
  pub pending : new.pending ≡ []

-- `new` is `old` with the item added: a fixed text without modifier to the pending text; any other
-- item as a part, after a part of the pending text. An empty text has no part.
abbrev pub AddsItem : OptionsView → Encoding → PartListView → Item → PartListView → Type 0
AddsItem options encoding old (Fixed text PartModifier.None) new =
    (new.parts ≡ old.parts) × (new.pending ≡ old.pending ++ text)
AddsItem options encoding old item new =
    AddsParts options encoding old (pending_items old.pending ++ item ∷ []) new

-- Memory ran out, or a demand of the items, which follow these parts, fails with the error, and all
-- demands before it are met.
abbrev pub FailsItems : Encoding → List PartView → List Item → Error → Type 0
FailsItems encoding parts items error =
    MemoryOr (FirstFails encoding (item_demands (group_names parts) items)) error

-- The item may fail to be added to `old` with this error: a fixed text without modifier only with
-- `OutOfMemory`, any other item also with the first demand that is not met.
abbrev pub FailsItem : Encoding → PartListView → Item → Error → Type 0
FailsItem encoding old (Fixed text PartModifier.None) error =
    error_view error ≡ ErrorView.OutOfMemory
FailsItem encoding old item error =
    FailsItems encoding old.parts (pending_items old.pending ++ item ∷ []) error
