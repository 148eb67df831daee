-- The parts of a pattern text, or why it is rejected, after the URLPattern Standard, section
-- "Parsing pattern strings".
use denote.Param.Members.{Shared}
use Rattle.std.specs.Prelude.{◌≡◌, ◌≢◌, ℕ, suc, ◌⊎◌, List, [], ◌∷◌, ◌++◌, bytes_eq, decimal, Option, Some, None, Result, Ok, Err, String, Contains, if◌then◌else◌, encode_utf8_all}
use Rattle.std.specs.{Borrow.Bor, Fn.FnReturnsAt}
use Rattle.std.specs.declared.alloc.Global.{Global}
use Rattle.std.specs.declared.vec.Vec.{Vec}
use Rattle.urlpattern_syntax.specs.Errors.{Error, ErrorView, error_view}
use Rattle.urlpattern_syntax.specs.{Options.OptionsView, Text.text_of}
use Rattle.urlpattern_syntax.specs.Parts.{Part, PartModifier, PartType, PartView, fixed_text, parts_view}
use Rattle.urlpattern_syntax.specs.Pieces.{Piece, PlaceholderKindView, Ending, ArePieces}
use Rattle.urlpattern_syntax.specs.RegexpText.{segment_wildcard, full_wildcard}
use Rattle.urlpattern_syntax.specs.Tokens.{AreTokens, FaultView, IsFault, TokenType, TokenView}

-- ---- the items of pieces

-- What a part is made from: a fixed text with its modifier; or a group with its prefix, name, kind
-- of placeholder, suffix and modifier.
pub data Item : Type 0 where
  Fixed : List ℕ → PartModifier → Item
  Capture : (prefix name : List ℕ) → PlaceholderKindView → (suffix : List ℕ) → PartModifier → Item

-- The name of a placeholder's group: the placeholder's own name, or `number` in decimal digits.
abbrev pub name_or : Option (List ℕ) → ℕ → List ℕ
name_or (Some name) number = name
name_or None number = decimal number

-- `number`, the count of placeholders without a name, increased by one if the placeholder has no
-- name.
abbrev pub next_number : Option (List ℕ) → ℕ → ℕ
next_number (Some name) number = number
next_number None number = suc number

-- The item that a piece becomes, where `number` placeholders before it have no name.
abbrev pub item : ℕ → Piece → Item
item number (Piece.Text text) = Fixed text PartModifier.None
item number (Piece.TextGroup text modifier) = Fixed text modifier
item number (Piece.Bare prefix placeholder modifier) =
    Capture prefix (name_or placeholder.name number) placeholder.matched [] modifier
item number (Piece.Group before placeholder after modifier) =
    Capture before (name_or placeholder.name number) placeholder.matched after modifier

-- `number`, the count of placeholders without a name, increased by one if the piece has a
-- placeholder without a name.
abbrev pub number_after : ℕ → Piece → ℕ
number_after number (Piece.Text text) = number
number_after number (Piece.TextGroup text modifier) = number
number_after number (Piece.Bare prefix placeholder modifier) = next_number placeholder.name number
number_after number (Piece.Group before placeholder after modifier) =
    next_number placeholder.name number

-- An item for each of the pieces, where `number` placeholders before them have no name.
abbrev pub items_from : ℕ → List Piece → List Item
items_from number [] = []
items_from number (piece ∷ rest) = item number piece ∷ items_from (number_after number piece) rest

-- The items with a fixed text before them that has no modifier. An empty text is dropped, and a
-- fixed text without modifier at the head is joined with the text.
abbrev pub with_text : List ℕ → List Item → List Item
with_text [] items = items
with_text (c ∷ text) (Fixed more PartModifier.None ∷ items) =
    Fixed (c ∷ text ++ more) PartModifier.None ∷ items
with_text (c ∷ text) items = Fixed (c ∷ text) PartModifier.None ∷ items

-- The items, with neighbouring fixed texts without modifier joined, and empty ones dropped.
abbrev pub joined_items : List Item → List Item
joined_items [] = []
joined_items (Fixed text PartModifier.None ∷ items) = with_text text (joined_items items)
joined_items (item ∷ items) = item ∷ joined_items items

-- The items of all pieces of a pattern text, with neighbouring fixed texts without modifier joined,
-- and empty ones dropped.
abbrev pub items_of : List Piece → List Item
items_of list = joined_items (items_from 0 list)

-- ---- demands

-- A condition that has to be met for a pattern text to be accepted.
pub data Demand : Type 0 where
  -- The encoding accepts the text.
  Encode : List ℕ → Demand
  -- The name is not among the earlier ones.
  NewName : (earlier : List (List ℕ)) → List ℕ → Demand
  -- The token is of this kind.
  Expect : TokenType → TokenView → Demand

-- The demand of a fixed text, that the encoding accepts it. An empty text has no demand.
abbrev pub fixed_text_demands : List ℕ → List Demand
fixed_text_demands [] = []
fixed_text_demands (c ∷ text) = Encode (c ∷ text) ∷ []

-- The demands of the items and of the ending, in order, after groups with the names `earlier`. If a
-- group lacks its Close, a last fixed text without modifier is not encoded.
abbrev pub demands_after : List (List ℕ) → List Item → Ending → List Demand
demands_after earlier [] (Ending.Stops found) = Expect TokenType.End found ∷ []
demands_after earlier [] (Ending.LacksClose found) = Expect TokenType.Close found ∷ []
demands_after earlier (Fixed text PartModifier.None ∷ []) (Ending.LacksClose found) =
    Expect TokenType.Close found ∷ []
demands_after earlier (Fixed text modifier ∷ items) ending =
    fixed_text_demands text ++ demands_after earlier items ending
demands_after earlier (Capture prefix name match suffix modifier ∷ items) ending =
    NewName earlier name ∷ Encode prefix ∷ Encode suffix
    ∷ demands_after (earlier ++ name ∷ []) items ending

-- The demands of all items of a pattern text, and of the ending.
abbrev pub demands : List Item → Ending → List Demand
demands items ending = demands_after [] items ending

-- An encoding relates a fixed text, a prefix or a suffix to its possible results: the encoded text,
-- or an error.
abbrev pub Encoding : Type 1
Encoding = List ℕ → Result (List ℕ) ErrorView → Type 0

-- The demand is met under the encoding.
abbrev pub IsMet : Encoding → Demand → Type 0
IsMet encoding (Encode text) = (answer : List ℕ) × encoding text (Ok answer)
IsMet encoding (NewName earlier name) = ¬ Contains earlier name
IsMet encoding (Expect kind token) = token.kind ≡ kind

-- All demands are met.
abbrev pub AreMet : Encoding → List Demand → Type 0
AreMet encoding [] = Unit {0}
AreMet encoding (demand ∷ rest) = IsMet encoding demand × AreMet encoding rest

-- The demand is not met under the encoding, and `error` reports it.
abbrev pub Fails : Encoding → Demand → ErrorView → Type 0
Fails encoding (Encode text) error = encoding text (Err error)
Fails encoding (NewName earlier name) error =
    Contains earlier name × (error ≡ ErrorView.DuplicateName name)
Fails encoding (Expect kind token) error =
    (token.kind ≢ kind) × (error ≡ ErrorView.ExpectedToken kind token.kind token.value)

-- A demand fails with this error, and all demands before it are met.
abbrev pub FirstFails : Encoding → List Demand → ErrorView → Type 0
FirstFails encoding [] error = ⊥
FirstFails encoding (demand ∷ rest) error =
    Fails encoding demand error ⊎ (IsMet encoding demand × FirstFails encoding rest error)

-- ---- parts

-- The regular expression of a placeholder, which decides the kind of its part.
abbrev pub placeholder_regexp : OptionsView → PlaceholderKindView → List ℕ
placeholder_regexp options PlaceholderKindView.Segment = segment_wildcard options
placeholder_regexp options (PlaceholderKindView.Custom body) = body
placeholder_regexp options PlaceholderKindView.Anything = full_wildcard

-- The kind of a group's part with this regular expression: a wildcard if the expression equals the
-- wildcard's, even a custom expression.
abbrev pub kind_of : OptionsView → List ℕ → PartType
kind_of options regexp =
    if bytes_eq regexp (segment_wildcard options) then PartType.SegmentWildcard
    else (if bytes_eq regexp full_wildcard then PartType.FullWildcard else PartType.Regexp)

-- The value of a part: the regular expression if it is a custom one, otherwise empty.
abbrev pub value_of : PartType → List ℕ → List ℕ
value_of PartType.Regexp regexp = regexp
value_of kind regexp = []

-- The part of a group. Prefix and suffix are the encoded ones.
abbrev pub capture_part : OptionsView → (prefix name : List ℕ) → PlaceholderKindView
    → (suffix : List ℕ) → PartModifier → PartView
capture_part options prefix name match suffix modifier =
    let regexp = placeholder_regexp options match in
    record {
      kind = kind_of options regexp;
      value = value_of (kind_of options regexp) regexp;
      modifier = modifier;
      name = name;
      prefix = prefix;
      suffix = suffix;
    }

-- `parts` are the parts of the items in order, with fixed texts, prefixes and suffixes encoded. An
-- empty fixed text has no part.
abbrev pub AreParts : OptionsView → Encoding → List Item → List PartView → Type 0
AreParts options encoding [] parts = parts ≡ []
AreParts options encoding (Fixed [] modifier ∷ items) parts = AreParts options encoding items parts
AreParts options encoding (Fixed (c ∷ text) modifier ∷ items) parts =
    (value : List ℕ) × (rest : List PartView) × (parts ≡ fixed_text value modifier ∷ rest)
    × encoding (c ∷ text) (Ok value) × AreParts options encoding items rest
AreParts options encoding (Capture prefix name match suffix modifier ∷ items) parts =
    (before after : List ℕ) × (rest : List PartView)
    × (parts ≡ capture_part options before name match after modifier ∷ rest)
    × encoding prefix (Ok before)
    × encoding suffix (Ok after)
    × AreParts options encoding items rest

-- ---- reading and rejection

-- The text parses to these parts: it is pieces up to its End, all demands are met, and the parts
-- are those of the pieces.
pub record Reads (text : List ℕ) (options : OptionsView) (encoding : Encoding)
    (parts : List PartView) : Type 0 where
  pub tokens : List TokenView
  pub pieces : List Piece
  pub found : TokenView
  pub are_tokens : AreTokens text tokens
  pub are_pieces : ArePieces options.prefix tokens pieces (Ending.Stops found)
  pub are_met : AreMet encoding (demands (items_of pieces) (Ending.Stops found))
  pub are_parts : AreParts options encoding (items_of pieces) parts

-- The text is tokens without a fault, and the first demand that is not met fails with this error.
pub record FailsDemand (text : List ℕ) (options : OptionsView) (encoding : Encoding)
    (error : ErrorView) : Type 0 where
  pub tokens : List TokenView
  pub pieces : List Piece
  pub ending : Ending
  pub are_tokens : AreTokens text tokens
  pub are_pieces : ArePieces options.prefix tokens pieces ending
  pub fails : FirstFails encoding (demands (items_of pieces) ending) error

-- The text is rejected with this error: its first fault, or else its first demand that is not met.
abbrev pub Rejects : List ℕ → OptionsView → Encoding → ErrorView → Type 0
Rejects text options encoding error =
    ((fault : FaultView) × (place : ℕ)
    × IsFault text fault place
    × (error ≡ ErrorView.Tokenizer fault place))
    ⊎ FailsDemand text options encoding error

-- The text reads as the parts of this vector.
abbrev pub IsReadAs : (text : List ℕ) → OptionsView → Encoding → Vec Part Global → Type 0
IsReadAs text options encoding parts = Reads text options encoding (parts_view parts.items)

-- ---- the results of callbacks

-- The result of an encoding callback, with its text as characters.
abbrev pub callback_result_view : Result (String Global) Error → Result (List ℕ) ErrorView
callback_result_view (Ok text) = Ok (text_of text)
callback_result_view (Err error) = Err (error_view error)

-- The encoding of a callback, where `returns` relates the bytes of a text to the callback's
-- possible results.
abbrev pub encoding_of : (List ℕ → Result (String Global) Error → Type 0) → Encoding
encoding_of returns text answer =
    (returned : Result (String Global) Error) × returns (encode_utf8_all text) returned
    × (answer ≡ callback_result_view returned)

-- The type of `F.Fn`, which clauses have by the bound `F: Fn(&str) -> Result<String, Error>`: what
-- callbacks of the type `F` may return for which text.
abbrev pub Calls : Type 0 → Type 1
Calls F = Shared F (Bor (List ℕ) × Unit {0}) (Result (String Global) Error)

-- The encoding of this callback, where `calls` says what callbacks of its type return.
abbrev pub encoding_by : {F : Type 0} → Calls F → F → Encoding
encoding_by calls callback = encoding_of (FnReturnsAt calls callback)
