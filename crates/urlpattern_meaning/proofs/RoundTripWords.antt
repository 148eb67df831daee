-- Words that the proofs about printed patterns share.
use Rattle.std.specs.Prelude.{◌≡◌, ◌&&◌, false, List, [], ◌∷◌}
use Rattle.urlpattern_syntax.specs.declared.parser.PartType.{PartType}
use Rattle.urlpattern_syntax.specs.declared.parser.PartType.TheVariants.{FixedText}
use Rattle.urlpattern_syntax.specs.Options.{OptionsView}
use Rattle.urlpattern_syntax.specs.Parts.{PartView}
use Rattle.urlpattern_syntax.specs.Pieces.{ArePieces, PlaceholderKindView, Piece, Ending as endings}
use Rattle.urlpattern_syntax.specs.Reading.{Capture, Fixed, Item, placeholder_regexp, items_of, kind_of, value_of}
use Rattle.urlpattern_syntax.specs.RegexpText.{is_plain}
use Rattle.urlpattern_syntax.specs.Tokens.{AreTokens, TokenView, end_of}
use Rattle.urlpattern_meaning.specs.Printing.{printed}

-- The item spells the part.
abbrev pub IsItemOf : OptionsView → PartType → PartView → Item → Type 0
IsItemOf options FixedText part item = item ≡ Fixed part.value part.modifier
IsItemOf options kind part item =
    (match : PlaceholderKindView) × (item ≡ Capture part.prefix part.name match part.suffix part.modifier)
    × (kind_of options (placeholder_regexp options match) ≡ part.kind) × (value_of part.kind (placeholder_regexp options match) ≡ part.value)

-- The items spell the parts, one by one.
abbrev pub AreItemsOf : OptionsView → List PartView → List Item → Type 0
AreItemsOf options [] items = items ≡ []
AreItemsOf options (part ∷ parts) items =
    (item : Item) × (rest : List Item) × (items ≡ item ∷ rest) × IsItemOf options part.kind part item × AreItemsOf options parts rest

-- The printed text of the parts has tokens and pieces that spell the parts, one by one.
pub record PrintsItsParts (options : OptionsView) (parts : List PartView) : Type 0 where
  pub tokens : List TokenView
  pub pieces : List Piece
  pub are_tokens : AreTokens (printed options parts) tokens
  pub are_pieces : ArePieces options.prefix tokens pieces (endings.Stops (end_of (printed options parts)))
  pub are_items : AreItemsOf options parts (items_of pieces)

-- At most one of two neighbours is a plain fixed text.
abbrev pub AreApart : List PartView → Type 0
AreApart [] = Unit {0}
AreApart (part ∷ []) = Unit {0}
AreApart (part ∷ next ∷ parts) = (is_plain part && is_plain next ≡ false) × AreApart (next ∷ parts)
