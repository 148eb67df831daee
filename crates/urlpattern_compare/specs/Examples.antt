-- Texts that parts match, made from the parts alone.
use Rattle.std.specs.Prelude.{◌≡◌, ◌≢◌, ℕ, true, List, [], ◌∷◌, ◌++◌, map, unwrap_or}
use Rattle.urlpattern_compare.specs.MeantTexts.{MeansText, folded_options, folded_part}
use Rattle.urlpattern_compare.specs.TextSearch.{IsLine}
use Rattle.urlpattern_expressions.specs.MatchedPartTexts.{PartMatches}
use Rattle.urlpattern_meaning.specs.Matching.{folded_character}
use Rattle.urlpattern_syntax.specs.{Options.OptionsView, Parts.PartView, Text.line_feed}
use Rattle.urlpattern_syntax.specs.declared.parser.PartType.{PartType}

-- The parts match the text, which has no line feed.
pub record IsExampleOf (options : OptionsView) (parts : List PartView) (text : List ℕ) : Type 0
  where
    pub means : MeansText options parts text
    pub line : IsLine text

-- ---- steps

-- The character is no capital letter, and not the delimiter, nor a line feed if there is none.
pub record IsSegment (options : OptionsView) (c : ℕ) : Type 0 where
  pub lower : folded_character true c ≡ c
  pub other : c ≢ unwrap_or (folded_options options).delimiter line_feed

-- A shortest copy of a part of this kind that is not custom: the fixed text, or prefix and suffix,
-- with the character `segment` between them if the wildcard matches segments.
abbrev pub shortest_copy : (segment : ℕ) → PartType → PartView → List ℕ
shortest_copy segment PartType.FixedText part = part.value
shortest_copy segment PartType.SegmentWildcard part =
    part.prefix ++ (segment ∷ []) ++ part.suffix
shortest_copy segment kind part = part.prefix ++ part.suffix

-- The text `new` is `old` with a text added that the part matches, with case ignored or kept.
abbrev pub IsPartTextAdded : OptionsView → PartView → (old new : List ℕ) → Type 0
IsPartTextAdded options part old new =
    (own : List ℕ) × (new ≡ old ++ own)
    × PartMatches (folded_options options) (folded_part options.ignore_case part)
    (map (folded_character options.ignore_case) own)
