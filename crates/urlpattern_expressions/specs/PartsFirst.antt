-- What a matcher returns by its parts, custom ones among them: the captures of the first way, which
-- are captures that the parts have in the text.
use Rattle.std.specs.Prelude.{◌≡◌, ℕ, List, Option, IsTrue}
use Rattle.std.specs.Str.{all_scalars}
use Rattle.urlpattern_expressions.specs.{PartCaptures.IsCapturedByParts, PartWays.parts_first_way}
use Rattle.urlpattern_meaning.specs.Matching.{EachResultIs, InnerView, IsOfMiddle, MatcherView}
use Rattle.urlpattern_meaning.specs.PartMeaning.{Captures}
use Rattle.urlpattern_syntax.specs.{Options.OptionsView, Parts.PartView}

-- `result` is the captures of the first way in which the parts match the whole text, and the parts
-- have these captures there. None: the parts do not match the text.
pub record IsFirstOfParts (options : OptionsView) (parts : List PartView) (text : List ℕ)
    (result : Option Captures) : Type 0 where
  pub is_first : result ≡ parts_first_way options parts text
  pub is_captured : IsCapturedByParts options parts text result

-- For each text of characters without line feed, the matcher returns the first way of the parts.
abbrev pub ReturnsFirstOfParts : {E : Type 0} → (answer : E → List ℕ → Option Captures)
    → OptionsView → List PartView → MatcherView E → Type 0
ReturnsFirstOfParts answer options parts matcher =
    EachResultIs answer matcher (IsFirstOfParts options parts)

-- If the matcher has an engine, the engine returns for each text of characters the first way of the
-- parts that are left to it, between the removed fixed texts. An engine's error fails this.
abbrev pub ReturnsFirstOfMiddle : {E : Type 0} → (answer : E → List ℕ → Option Captures)
    → OptionsView → List PartView → InnerView E → Type 0
ReturnsFirstOfMiddle answer options parts inner =
    IsOfMiddle (λ engine middle.
    (text : List ℕ) → IsTrue (all_scalars text)
    → IsFirstOfParts options middle text (answer engine text)) parts inner
