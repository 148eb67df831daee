-- The texts that parts mean, with case ignored or kept.
use Rattle.std.specs.Prelude.{ℕ, Bool, List, map, option_map}
use Rattle.urlpattern_expressions.specs.MatchedPartTexts.{PartsMatch}
use Rattle.urlpattern_meaning.specs.Matching.{folded_character}
use Rattle.urlpattern_syntax.specs.{Options.OptionsView, Parts.PartView}

-- The options, with the delimiter in lower case if case is ignored.
abbrev pub folded_options : OptionsView → OptionsView
folded_options options = record options {
  delimiter = option_map (folded_character options.ignore_case) options.delimiter;
}

-- The part, with its texts in lower case if case is ignored.
abbrev pub folded_part : (ignore_case : Bool) → PartView → PartView
folded_part ignore_case part = record part {
  value = map (folded_character ignore_case) part.value;
  prefix = map (folded_character ignore_case) part.prefix;
  suffix = map (folded_character ignore_case) part.suffix;
}

-- The parts, with their texts in lower case if case is ignored.
abbrev pub folded_parts : OptionsView → List PartView → List PartView
folded_parts options parts = map (folded_part options.ignore_case) parts

-- The parts mean the text: they match it, one after the other. If case is ignored, ASCII letters of
-- parts, delimiter and text are compared in lower case; of custom parts nothing is known then
-- (`IsKnown`).
abbrev pub MeansText : OptionsView → List PartView → (text : List ℕ) → Type 0
MeansText options parts text =
    PartsMatch (folded_options options) (folded_parts options parts)
    (map (folded_character options.ignore_case) text)
