-- The tree of the regular expression of a list of parts, made without reading a text.
use Rattle.std.specs.Prelude.{◌≢◌, ℕ, Bool, true, false, ◌&&◌, List, [], ◌∷◌, Option, Some, None, if◌then◌else◌}
use Rattle.urlpattern_meaning.specs.Dialect.{Atom, Literal, Dot, AnyBut, Captured, Grouped, Character, Plain, Escaped, Items, Nothing, Item, Quantifier, Quantifier as quantifiers}
use Rattle.urlpattern_syntax.specs.declared.parser.PartModifier.{PartModifier}
use Rattle.urlpattern_syntax.specs.declared.parser.PartModifier.TheVariants as modifiers
use Rattle.urlpattern_syntax.specs.declared.parser.PartType.{PartType}
use Rattle.urlpattern_syntax.specs.declared.parser.PartType.TheVariants.{FixedText, Regexp, SegmentWildcard, FullWildcard}
use Rattle.urlpattern_syntax.specs.Options.{OptionsView}
use Rattle.urlpattern_syntax.specs.Parts.{PartView}
use Rattle.urlpattern_syntax.specs.RegexpText.{escaped_marks, is_empty}
use Rattle.urlpattern_syntax.specs.Text.{is_among}

-- ---- texts

-- A character, after a backslash if it is one of the marks.
abbrev pub character : (marks : List ℕ) → ℕ → Character
character marks c = if is_among marks c then Escaped c else Plain c

-- A text before items.
abbrev pub put : (marks text : List ℕ) → Items → Items
put marks [] items = items
put marks (c ∷ text) items = Item (Literal (character marks c)) quantifiers.Once (put marks text items)

abbrev pub alone : Atom → Quantifier → Items
alone atom quantifier = Item atom quantifier Nothing

-- ---- the text that a part's group matches

-- A single character of a segment.
abbrev pub segment_atom : (marks : List ℕ) → (delimiter : Option ℕ) → Atom
segment_atom marks None = Dot
segment_atom marks (Some c) = AnyBut (character marks c)

abbrev pub wildcard_items : OptionsView → PartType → Items
wildcard_items options SegmentWildcard = alone (segment_atom (escaped_marks options.syntax) options.delimiter) quantifiers.LazyOneOrMore
wildcard_items options FullWildcard = alone Dot quantifiers.ZeroOrMore
wildcard_items options kind = Nothing

-- ---- one part

-- The modifier as it is written after an atom.
abbrev pub quantifier_of : PartModifier → Quantifier
quantifier_of modifiers.None = quantifiers.Once
quantifier_of modifiers.Optional = quantifiers.Optional
quantifier_of modifiers.ZeroOrMore = quantifiers.ZeroOrMore
quantifier_of modifiers.OneOrMore = quantifiers.OneOrMore

-- The capture of a group with neither prefix nor suffix, and its quantifier.
abbrev pub bare_core : PartModifier → (piece : Items) → Items
bare_core modifiers.ZeroOrMore piece = alone (Grouped piece) quantifiers.ZeroOrMore
bare_core modifiers.OneOrMore piece = alone (Grouped piece) quantifiers.OneOrMore
bare_core modifier piece = piece

abbrev pub bare_quantifier : PartModifier → Quantifier
bare_quantifier modifiers.Optional = quantifiers.Optional
bare_quantifier modifier = quantifiers.Once

-- The text that a further copy adds.
abbrev pub further : (marks prefix : List ℕ) → (piece : Items) → (suffix : List ℕ) → Items
further marks prefix piece suffix = put marks suffix (put marks prefix (alone (Grouped piece) quantifiers.Once))

-- At least one copy, without the first prefix and the last suffix.
abbrev pub copies : (marks prefix : List ℕ) → (piece : Items) → (suffix : List ℕ) → Items
copies marks prefix piece suffix =
    Item (Grouped piece) quantifiers.Once (alone (Grouped (further marks prefix piece suffix)) quantifiers.ZeroOrMore)

-- The capture of a group with a prefix or a suffix, and its quantifier.
abbrev pub affixed_core : PartModifier → (marks prefix : List ℕ) → (piece : Items) → (suffix : List ℕ) → Items
affixed_core modifiers.ZeroOrMore marks prefix piece suffix = copies marks prefix piece suffix
affixed_core modifiers.OneOrMore marks prefix piece suffix = copies marks prefix piece suffix
affixed_core modifier marks prefix piece suffix = piece

abbrev pub affixed_quantifier : PartModifier → Quantifier
affixed_quantifier modifiers.Optional = quantifiers.Optional
affixed_quantifier modifiers.ZeroOrMore = quantifiers.Optional
affixed_quantifier modifier = quantifiers.Once

-- A capture between prefix and suffix.
abbrev pub between : (marks prefix : List ℕ) → (core : Items) → (suffix : List ℕ) → Items
between marks prefix core suffix = put marks prefix (Item (Captured core) quantifiers.Once (put marks suffix Nothing))

-- The atom of a group, by whether it has neither prefix nor suffix.
abbrev pub group_atom : (is_bare : Bool) → PartModifier → (marks prefix : List ℕ) → (piece : Items) → (suffix : List ℕ) → Atom
group_atom true modifier marks prefix piece suffix = Captured (bare_core modifier piece)
group_atom false modifier marks prefix piece suffix = Grouped (between marks prefix (affixed_core modifier marks prefix piece suffix) suffix)

abbrev pub group_quantifier : (is_bare : Bool) → PartModifier → Quantifier
group_quantifier true modifier = bare_quantifier modifier
group_quantifier false modifier = affixed_quantifier modifier

-- A fixed text, by its modifier.
abbrev pub fixed_tree : PartModifier → (marks value : List ℕ) → Items → Items
fixed_tree modifiers.None marks value items = put marks value items
fixed_tree modifier marks value items = Item (Grouped (put marks value Nothing)) (quantifier_of modifier) items

-- A part before items, by its kind.
abbrev pub part_tree_by : PartType → OptionsView → PartView → Items → Items
part_tree_by FixedText options part items = fixed_tree part.modifier (escaped_marks options.syntax) part.value items
part_tree_by kind options part items =
    Item (group_atom (is_empty part.prefix && is_empty part.suffix) part.modifier (escaped_marks options.syntax) part.prefix (wildcard_items options kind) part.suffix)
    (group_quantifier (is_empty part.prefix && is_empty part.suffix) part.modifier) items

abbrev pub part_tree : OptionsView → PartView → Items → Items
part_tree options part items = part_tree_by part.kind options part items

-- ---- a list of parts

-- The part has no regular expression of its own.
abbrev pub IsNotCustom : PartView → Type 0
IsNotCustom part = part.kind ≢ Regexp

abbrev pub tree_of : OptionsView → List PartView → Items
tree_of options [] = Nothing
tree_of options (part ∷ parts) = part_tree options part (tree_of options parts)
