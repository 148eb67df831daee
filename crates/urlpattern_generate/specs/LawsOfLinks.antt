-- Laws of the text of parts with given captures.
use Rattle.std.specs.Prelude.{◌≡◌, ℕ, All, List}
use Rattle.urlpattern_generate.specs.Links.{MayCaptureAll, text_of_parts}
use Rattle.urlpattern_meaning.specs.PartMeaning.{AreGenerated, Captures, PartsMean}
use Rattle.urlpattern_syntax.specs.declared.parser.{PartModifier.PartModifier, PartType.PartType}
use Rattle.urlpattern_syntax.specs.{Options.OptionsView, Parts.PartView}

-- The parts have no fixed text with a modifier.
abbrev pub HavePlainTexts : List PartView → Type 0
HavePlainTexts parts =
    All (λ part. part.kind ≡ PartType.FixedText → part.modifier ≡ PartModifier.None) parts

-- If no part is custom, and captures meet `MayCaptureAll`, parts match the text that is written
-- from these captures, and match it with them.
abbrev pub WrittenTextsAreMeant : Type 0
WrittenTextsAreMeant =
    (options : OptionsView) (parts : List PartView) (captures : Captures) → AreGenerated parts →
    MayCaptureAll options parts captures
    → PartsMean options parts (text_of_parts parts captures) captures

-- The captures with which parts match a text meet `MayCaptureAll`, which judges each group alone: a
-- text can be written from them.
abbrev pub MeantCapturesMayBeCaptured : Type 0
MeantCapturesMayBeCaptured =
    (options : OptionsView) (parts : List PartView) (text : List ℕ) (captures : Captures) →
    PartsMean options parts text captures → MayCaptureAll options parts captures

-- If no fixed text has a modifier, and parts match a text with some captures, the text that is
-- written with these captures is that text.
abbrev pub MatchingIsReadBackwards : Type 0
MatchingIsReadBackwards =
    (options : OptionsView) (parts : List PartView) (text : List ℕ) (captures : Captures) →
    HavePlainTexts parts
    → PartsMean options parts text captures
    → text_of_parts parts captures ≡ text
