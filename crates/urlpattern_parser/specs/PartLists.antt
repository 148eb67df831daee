-- The parts that the parser reads and adds to its list, under its own options and by its own
-- callback.
use Rattle.std.specs.Prelude.{◌≡◌, ℕ, List, [], ◌∷◌, ◌++◌, Contains, Option}
use Rattle.std.specs.Borrow.{Bor}
use Rattle.urlpattern_parser.specs.declared.parser.part_list.PartList.{PartList}
use Rattle.urlpattern_parser.specs.declared.parser.{PatternParser.PatternParser, pieces.PlaceholderKind.PlaceholderKind, pieces.Piece.Piece, pieces.Placeholder.Placeholder}
use Rattle.urlpattern_syntax.specs.declared.tokenizer.TokenType.TheVariants.{End}
use Rattle.urlpattern_syntax.specs.Errors.{ErrorView}
use Rattle.urlpattern_syntax.specs.declared.error.Error.{Error}
use Rattle.urlpattern_syntax.specs.Options.{OptionsView, options_view}
use Rattle.urlpattern_syntax.specs.Parsing.{AddsItem, AddsParts, FailsItem, FailsItems, pending_items}
use Rattle.urlpattern_parser.specs.Readers.{KnowsNames, group_item, matched_view, part_list_view, piece_view}
use Rattle.urlpattern_syntax.specs.Parts.{parts_view}
use Rattle.urlpattern_syntax.specs.declared.parser.Part.{Part}
use Rattle.urlpattern_syntax.specs.declared.parser.PartModifier.{PartModifier}
use Rattle.urlpattern_syntax.specs.Reading.{Calls, Demand, Encoding, Expect, Fixed, Item, Reads, Rejects, placeholder_regexp, fixed_text_demands, encoding_by, item, name_or}
use Rattle.urlpattern_syntax.specs.RegexpText.{group_names}
use Rattle.urlpattern_syntax.specs.Tokens.{token_view}
use Rattle.urlpattern_syntax.specs.declared.tokenizer.Token.{Token}
use Rattle.urlpattern_syntax.specs.Text.{chars, option_text}

-- ---- the parser

-- The options of the parser.
abbrev pub parser_options : {F : Type 0} → PatternParser F → OptionsView
parser_options parser = options_view parser.options.now

-- The encoding of the parser's callback, which relates each text to its possible results.
abbrev pub parser_encoding : {F : Type 0} → Calls F → PatternParser F → Encoding
parser_encoding calls parser = encoding_by calls parser.encoding_callback

-- The text reads as these parts, under the options and the callback of the parser.
abbrev pub ParserReads : {F : Type 0} → Calls F → PatternParser F → List ℕ → List Part → Type 0
ParserReads calls parser text parts =
    Reads text (parser_options parser) (parser_encoding calls parser) (parts_view parts)

-- The text is rejected with this error, under the options and the callback of the parser.
abbrev pub ParserRejects : {F : Type 0} → Calls F → PatternParser F → List ℕ → ErrorView → Type 0
ParserRejects calls parser text error =
    Rejects text (parser_options parser) (parser_encoding calls parser) error

-- The regular expression of a placeholder that matches `matched`. From its spelling follows the
-- kind of the placeholder's part.
abbrev pub matched_regexp : {F : Type 0} → PatternParser F → PlaceholderKind → List ℕ
matched_regexp parser matched = placeholder_regexp (parser_options parser) (matched_view matched)

-- ---- the names of a list

-- The names of the groups among the parts of the list.
abbrev pub list_names : PartList → List (List ℕ)
list_names list = group_names (part_list_view list).parts

-- The list knows `names` as the names that are used: its set has exactly those that the pattern
-- gives, and its next number and those after it are not among them.
abbrev pub Knows : PartList → List (List ℕ) → Type 0
Knows list names = KnowsNames names list.given_names list.next_numeric_name

-- The list knows the names of its groups as the names that are used.
abbrev pub KnowsItsNames : PartList → Type 0
KnowsItsNames list = Knows list (list_names list)

-- The name of the next group of the list: the given name, or, for None, the number of groups in the
-- list without a given name.
abbrev pub next_name : PartList → Option (Bor (List ℕ)) → List ℕ
next_name list name = name_or (option_text name) list.next_numeric_name

-- The error reports that a group of the list already has the name of the next group.
abbrev pub IsDuplicate : PartList → Option (Bor (List ℕ)) → ErrorView → Type 0
IsDuplicate list name error =
    Contains (list_names list) (next_name list name)
    × (error ≡ ErrorView.DuplicateName (next_name list name))

-- ---- additions to a list

-- The items of the list's pending text: a fixed text without a modifier, or none if it is empty.
abbrev pub pending_item : PartList → List Item
pending_item list = pending_items (part_list_view list).pending

-- The items of the list's pending text, and then a fixed text of these bytes with the modifier.
abbrev pub then_text : PartList → (bytes : List ℕ) → PartModifier → List Item
then_text list bytes modifier = pending_item list ++ Fixed (chars bytes) modifier ∷ []

-- The items of the list's pending text, and then a group: a placeholder with the prefix `before`
-- and the suffix `after`, in bytes.
abbrev pub then_group : PartList → (before : List ℕ) → Placeholder → (after : List ℕ) → PartModifier
    → List Item
then_group list before placeholder after modifier =
    pending_item list
    ++ group_item (chars before) placeholder (chars after) modifier list.next_numeric_name ∷ []

-- The item that the piece becomes after the parts of the list. A group without a given name is
-- named by the next number of the list.
abbrev pub next_item : PartList → Piece → Item
next_item list piece = item list.next_numeric_name (piece_view piece)

-- What is demanded where the pieces end at the token: that the encoding accepts the list's pending
-- text, unless it is empty, and that the token is End.
abbrev pub end_demands : PartList → Token → List Demand
end_demands list token =
    fixed_text_demands (part_list_view list).pending ++ Expect End (token_view token) ∷ []

-- Adding the items to the list `old` results in `new`: their parts follow those of `old`, all of
-- their demands are met, and no text is pending.
abbrev pub AddsAll : {F : Type 0} → Calls F → PatternParser F → (old : PartList) → List Item
    → (new : PartList) → Type 0
AddsAll calls parser old items new =
    AddsParts (parser_options parser) (parser_encoding calls parser) (part_list_view old) items
    (part_list_view new)

-- Adding the piece to the list `old` results in `new`: a literal text without a modifier is
-- appended to the pending text; any other piece becomes a part, after a part of the pending text.
-- An empty text becomes no part.
abbrev pub AddsPiece : {F : Type 0} → Calls F → PatternParser F → (old : PartList) → Piece
    → (new : PartList) → Type 0
AddsPiece calls parser old piece new =
    AddsItem (parser_options parser) (parser_encoding calls parser) (part_list_view old)
    (next_item old piece) (part_list_view new)

-- Adding the items to the list fails with the error: memory ran out, or the first demand of the
-- items that is not met fails with this error.
abbrev pub FailsToAdd : {F : Type 0} → Calls F → PatternParser F → PartList → List Item → Error
    → Type 0
FailsToAdd calls parser list items error =
    FailsItems (parser_encoding calls parser) (part_list_view list).parts items error

-- Adding the piece to the list fails with the error: memory ran out, or, unless the piece is a
-- literal text without a modifier, the first demand that is not met fails with this error.
abbrev pub FailsToAddPiece : {F : Type 0} → Calls F → PatternParser F → PartList → Piece → Error
    → Type 0
FailsToAddPiece calls parser list piece error =
    FailsItem (parser_encoding calls parser) (part_list_view list) (next_item list piece) error
