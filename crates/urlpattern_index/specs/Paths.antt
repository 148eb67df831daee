-- Texts that fit the parts of a pathname.
use Rattle.std.specs.Prelude.{◌≡◌, ℕ, Bool, List, [], ◌∷◌, ◌++◌, IsTrue, Option, Some}
use Rattle.urlpattern_syntax.specs.declared.parser.{PartModifier.PartModifier, PartType.PartType}
use Rattle.urlpattern_syntax.specs.Parts.{PartView}
use Rattle.urlpattern_syntax.specs.Text.{lacks}

-- `text` fits a part of this kind without a modifier: it is the fixed text; for a segment wildcard
-- with a delimiter, the prefix, a run without the delimiter, and the suffix; for any other part, it
-- begins with the prefix.
abbrev pub FitsUnmodified : PartType → (delimiter : Option ℕ) → PartView → List ℕ → Type 0
FitsUnmodified PartType.FixedText delimiter part text = text ≡ part.value
FitsUnmodified PartType.SegmentWildcard (Some end) part text =
    (run : List ℕ) × (text ≡ part.prefix ++ run ++ part.suffix) × IsTrue (lacks end run)
FitsUnmodified kind delimiter part text = (more : List ℕ) × (text ≡ part.prefix ++ more)

-- The text fits a part with this modifier; any text fits an optional or repeated part.
abbrev pub FitsModified : PartModifier → (delimiter : Option ℕ) → PartView → List ℕ → Type 0
FitsModified PartModifier.None delimiter part text = FitsUnmodified part.kind delimiter part text
FitsModified modifier delimiter part text = Unit {0}

-- The text fits the part, by its kind and modifier.
abbrev pub FitsPart : (delimiter : Option ℕ) → PartView → List ℕ → Type 0
FitsPart delimiter part text = FitsModified part.modifier delimiter part text

-- What is known of a pathname: parts, the character that a segment wildcard does not match, if
-- there is one, and whether nothing follows the parts.
pub record PathView : Type 0 where
  pub parts : List PartView
  pub delimiter : Option ℕ
  pub is_exact : Bool

-- `text` is a concatenation of texts that fit the parts, one text for each part, and of any text
-- after them unless `is_exact`.
abbrev pub FitsParts : (is_exact : Bool) → (delimiter : Option ℕ) → List PartView → List ℕ
    → Type 0
FitsParts is_exact delimiter [] text = IsTrue is_exact → text ≡ []
FitsParts is_exact delimiter (part ∷ parts) text =
    (first rest : List ℕ) × (text ≡ first ++ rest) × FitsPart delimiter part first
    × FitsParts is_exact delimiter parts rest

-- The text fits what is known of a path.
abbrev pub FitsPath : PathView → List ℕ → Type 0
FitsPath path text = FitsParts path.is_exact path.delimiter path.parts text
