-- The regular expression that is generated from parts, and its captures.
use Rattle.std.specs.Prelude.{◌≡◌, ℕ, List, length}
use Rattle.urlpattern_meaning.specs.Dialect.{HasMeaningOf}
use Rattle.urlpattern_meaning.specs.PartMeaning.{Captures, PartsMean}
pub use Rattle.urlpattern_meaning.specs.PartMeaning.{AreGenerated}
use Rattle.urlpattern_syntax.specs.{Options.OptionsView, Parts.PartView}

-- If none of the parts is a custom regular expression, then `regexp` matches exactly the texts that
-- the parts match, with the same captures.
abbrev pub HasGeneratedMeaning : (regexp : List ℕ) → OptionsView → List PartView → Type 0
HasGeneratedMeaning regexp options parts = AreGenerated parts → HasMeaningOf regexp options parts

-- The parts have `count` captures for each text that they match.
abbrev pub HaveCaptures : OptionsView → List PartView → (count : ℕ) → Type 0
HaveCaptures options parts count =
    (text : List ℕ) (captures : Captures) → PartsMean options parts text captures
    → length captures ≡ count
