-- The parts of a pattern, as clauses see them.
use Rattle.std.specs.Prelude.{ℕ, List, [], map}
pub use Rattle.urlpattern_syntax.specs.declared.parser.{Part.Part, PartModifier.PartModifier, PartType.PartType}
use Rattle.urlpattern_syntax.specs.Text.{text_of}

-- The view of a `Part`, with its texts as characters.
pub record PartView : Type 0 where
  pub kind : PartType
  pub value : List ℕ
  pub modifier : PartModifier
  pub name : List ℕ
  pub prefix : List ℕ
  pub suffix : List ℕ

-- The view of a `Part`.
abbrev pub part_view : Part → PartView
part_view part = record {
  kind = part.kind;
  value = text_of part.value;
  modifier = part.modifier;
  name = text_of part.name;
  prefix = text_of part.prefix;
  suffix = text_of part.suffix;
}

-- The views of a list of parts.
abbrev pub parts_view : List Part → List PartView
parts_view parts = map part_view parts

-- The part that matches the literal text `value`, as often as the modifier allows.
abbrev pub fixed_text : List ℕ → PartModifier → PartView
fixed_text value modifier = record {
  kind = PartType.FixedText;
  value = value;
  modifier = modifier;
  name = [];
  prefix = [];
  suffix = [];
}
