-- The texts of trees: what a simple expression matches, character by character.
use Rattle.std.specs.Prelude.{◌≡◌, ◌↔◌, ◌⊎◌, ℕ, zero, suc, ◌-◌, Bool, true, false, ◌&&◌, List, [], ◌∷◌, ◌++◌, Option, Some, None, IsTrue, if◌then◌else◌}
use Rattle.std.specs.Char.{is_ascii}
use Rattle.std.specs.List.{list_all}
use Rattle.std.specs.Str.{all_scalars}
use Rattle.regex_class.specs.Ranges.{in_ranges}
use Rattle.regex_hir.specs.Re.{Re, empty, literal, byte_in, char_in, look, cat, alt, group, plus}
use Rattle.urlpattern_expressions.specs.Expressions.{ExpressionMatches, is_nothing}
use Rattle.urlpattern_expressions.specs.MatchedPartTexts.{PartMatches}
use Rattle.urlpattern_expressions.specs.declared.tree.Tree.{Tree}
use Rattle.urlpattern_expressions.specs.declared.tree.Tree.TheVariants.{Nothing, One, Then', Either', Several'}
use Rattle.urlpattern_syntax.specs.{Options.OptionsView, Parts.PartView, Text.IsRepeated}
use Rattle.urlpattern_syntax.specs.declared.parser.PartModifier.{PartModifier}

-- ---- shapes

-- A shape stands for a set of texts.
pub data Shape : Type 0 where
  -- the empty text
  nothing : Shape
  -- a character of the ranges
  one_of : List (ℕ × ℕ) → Shape
  -- a text of the first, and then one of the second
  sequence : Shape → Shape → Shape
  -- a text of the first, or one of the second
  choice : Shape → Shape → Shape
  -- texts in a row, at least one
  several : Shape → Shape

-- The text is of the shape.
abbrev pub Takes : Shape → (text : List ℕ) → Type 0
Takes nothing text = text ≡ []
Takes (one_of ranges) text = (c : ℕ) × (text ≡ c ∷ []) × IsTrue (in_ranges ranges c)
Takes (sequence one other) text =
    (first rest : List ℕ) × (text ≡ first ++ rest) × Takes one first × Takes other rest
Takes (choice one other) text = Takes one text ⊎ Takes other text
Takes (several one) text = (n : ℕ) × IsRepeated (Takes one) (suc n) text

-- Of a tree, its shape: what its variants stand for.
abbrev pub shape : Tree → Shape
shape Nothing = nothing
shape (One ranges) = one_of ranges.items
shape (Then' p one q other) = sequence (shape one) (shape other)
shape (Either' p one q other) = choice (shape one) (shape other)
shape (Several' p one) = several (shape one)

-- The shape has exactly the texts of characters that the custom expression matches.
abbrev pub IsShapeOf : (expression : List ℕ) → Shape → Type 0
IsShapeOf expression one =
    (text : List ℕ) → IsTrue (all_scalars text) → Takes one text ↔ ExpressionMatches expression text

-- ---- patterns

-- The text alone.
abbrev pub spelled : (text : List ℕ) → Shape
spelled [] = nothing
spelled (c ∷ text) = sequence (one_of ((c, c) ∷ [])) (spelled text)

-- Whether each step of the pattern reads characters: literals are ASCII, byte classes are empty,
-- and there are no assertions.
abbrev pub reads_characters : Re → Bool
reads_characters empty = true
reads_characters (literal bytes) = list_all is_ascii bytes
reads_characters (byte_in ranges) = is_nothing ranges
reads_characters (char_in ranges) = true
reads_characters (look assertion) = false
reads_characters (cat one other) = reads_characters one && reads_characters other
reads_characters (alt one other) = reads_characters one && reads_characters other
reads_characters (group number inner) = reads_characters inner
reads_characters (plus greedy inner) = reads_characters inner

-- The shape of a pattern whose steps read characters.
abbrev pub pattern_shape : Re → Shape
pattern_shape empty = nothing
pattern_shape (literal bytes) = spelled bytes
pattern_shape (byte_in ranges) = one_of ranges
pattern_shape (char_in ranges) = one_of ranges
pattern_shape (look assertion) = nothing
pattern_shape (cat one other) = sequence (pattern_shape one) (pattern_shape other)
pattern_shape (alt one other) = choice (pattern_shape one) (pattern_shape other)
pattern_shape (group number inner) = pattern_shape inner
pattern_shape (plus greedy inner) = several (pattern_shape inner)

-- ---- repetition

-- `count` copies of the first, and then the last.
abbrev pub copied : (count : ℕ) → (one last : Shape) → Shape
copied zero one last = last
copied (suc count) one last = sequence one (copied count one last)

-- The shape, or the empty text. Which of the two comes first changes none of the texts: `greedy`,
-- here and below, keeps the order of the pattern.
abbrev pub optional : (greedy : Bool) → Shape → Shape
optional greedy one = if greedy then choice one nothing else choice nothing one

-- At most `count` copies.
abbrev pub up_to : (greedy : Bool) → (count : ℕ) → Shape → Shape
up_to greedy zero one = nothing
up_to greedy (suc count) one = optional greedy (sequence one (up_to greedy count one))

-- At least `count` copies.
abbrev pub at_least : (greedy : Bool) → (count : ℕ) → Shape → Shape
at_least greedy zero one = optional greedy (several one)
at_least greedy (suc count) one = copied count one (several one)

-- At least `min` copies and, if there is a `max`, at most so many.
abbrev pub repeated : (min : ℕ) → (max : Option ℕ) → (greedy : Bool) → Shape → Shape
repeated min None greedy one = at_least greedy min one
repeated min (Some max) greedy one = copied min one (up_to greedy (max - min) one)

-- ---- parts

-- As many texts of the shape, one after the other, as the modifier allows.
abbrev pub allowed : PartModifier → Shape → Shape
allowed PartModifier.None one = one
allowed PartModifier.Optional one = optional true one
allowed PartModifier.OneOrMore one = several one
allowed PartModifier.ZeroOrMore one = optional true (several one)

-- The shape of a custom part, where `one` is the shape of its expression.
abbrev pub part_shape : PartView → (one : Shape) → Shape
part_shape part one =
    allowed part.modifier (sequence (spelled part.prefix) (sequence one (spelled part.suffix)))

-- The shape has exactly the texts of characters that the part matches.
abbrev pub IsShapeOfPart : PartView → Shape → Type 0
IsShapeOfPart part one =
    (options : OptionsView) → (text : List ℕ) → IsTrue (all_scalars text)
    → Takes one text ↔ PartMatches options part text
