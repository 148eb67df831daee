-- The captures of parts, custom parts included.
use Rattle.std.specs.Prelude.{◌≡◌, ℕ, List, [], ◌∷◌, ◌++◌, Option, Some, None}
use Rattle.urlpattern_expressions.specs.MatchedPartTexts.{IsMatchedCopy, PartsMatch}
use Rattle.urlpattern_meaning.specs.PartMeaning.{Allows, Captures, IsCapture}
use Rattle.urlpattern_syntax.specs.{Options.OptionsView, Parts.PartView}
use Rattle.urlpattern_syntax.specs.declared.parser.PartType.{PartType}
use Rattle.urlpattern_syntax.specs.Text.{IsRepeated}

-- `captures` are those of n copies of a part of this kind with this text: no capture for a fixed
-- text, a single one for a group.
abbrev pub AreCapturesOf : PartType → PartView → ℕ → List ℕ → Captures → Type 0
AreCapturesOf PartType.FixedText part n text captures = captures ≡ []
AreCapturesOf kind part n text captures =
    (capture : Option (List ℕ)) × IsCapture part n text capture × (captures ≡ capture ∷ [])

-- The text is as many copies of the part as its modifier allows, and the part has these captures.
pub record PartCaptures (options : OptionsView) (part : PartView) (text : List ℕ)
    (captures : Captures) : Type 0 where
  pub count : ℕ
  pub allowed : Allows part.modifier count
  pub are_copies : IsRepeated (IsMatchedCopy options part.kind part) count text
  pub are_captures : AreCapturesOf part.kind part count text captures

-- The text is split into one substring for each part, and the parts have these captures in their
-- substrings.
abbrev pub PartsCapture : OptionsView → List PartView → List ℕ → Captures → Type 0
PartsCapture options [] text captures = (text ≡ []) × (captures ≡ [])
PartsCapture options (part ∷ parts) text captures =
    (first rest : List ℕ) × (own others : Captures)
    × (text ≡ first ++ rest)
    × (captures ≡ own ++ others)
    × PartCaptures options part first own × PartsCapture options parts rest others

-- The result is captures that the parts have in the text, or `None` if the parts do not match the
-- text.
abbrev pub IsCapturedByParts : OptionsView → List PartView → (text : List ℕ) → Option Captures
    → Type 0
IsCapturedByParts options parts text (Some captures) = PartsCapture options parts text captures
IsCapturedByParts options parts text None = ¬ PartsMatch options parts text
