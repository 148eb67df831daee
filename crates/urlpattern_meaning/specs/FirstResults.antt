-- Which captures a matcher returns where parts match a text in several ways: those of the first
-- way, the one that a backtracking engine finds first.
use Rattle.std.specs.Prelude.{◌≡◌, ℕ, false, List, Option, Ok, Err, IsTrue}
use Rattle.std.specs.Str.{all_scalars}
use Rattle.urlpattern_meaning.specs.Dialect.{IsTreeOf, Items}
use Rattle.urlpattern_meaning.specs.Matching.{EachResultIs, InnerView, IsOfMiddle, MatcherView, RegExp}
use Rattle.urlpattern_meaning.specs.PartMeaning.{AreGenerated, Captures}
use Rattle.urlpattern_meaning.specs.Ways.{first_way}
use Rattle.urlpattern_syntax.specs.{Options.OptionsView, Parts.PartView, RegexpText.regexp_text}

-- `result` is the captures of the first way in which the tree of the regular expression of the
-- parts matches the whole text, or None where no way does.
pub record IsFirstOf (options : OptionsView) (parts : List PartView) (text : List ℕ)
    (result : Option Captures) : Type 0 where
  pub tree : Items
  pub is_tree : IsTreeOf (regexp_text options parts) tree
  pub is_first : result ≡ first_way tree text

-- For each text of characters, `answer`, the result of an engine for the regular expression
-- `regexp`, is the captures of the first way of the tree of `regexp`.
abbrev pub ReturnsFirst : (regexp : List ℕ) → (answer : List ℕ → Option Captures) → Type 0
ReturnsFirst regexp answer =
    (tree : Items) (text : List ℕ) → IsTreeOf regexp tree
    → IsTrue (all_scalars text)
    → answer text ≡ first_way tree text

-- If the matcher has an engine, the engine returns the captures of the first way of the tree of the
-- parts that are left to it, between the removed fixed texts. An engine's error fails this.
abbrev pub ReturnsFirstInMiddle : {E : Type 0} → (answer : E → List ℕ → Option Captures)
    → OptionsView → List PartView → InnerView E → Type 0
ReturnsFirstInMiddle answer options parts inner =
    IsOfMiddle (λ engine middle. ReturnsFirst (regexp_text options middle) (answer engine)) parts
    inner

-- If no part is custom, case is kept, and the matcher's engine, if it has one, accepted its regular
-- expression and returns the captures of the first way for the parts that are left to it, then the
-- matcher returns those of the first way of the tree of the parts, for each text of characters
-- without line feed.
abbrev pub ReturnsByFirstWay : {E : Type 0} → (answer : E → List ℕ → Option Captures) → OptionsView
    → List PartView → MatcherView E → Type 0
ReturnsByFirstWay answer options parts matcher =
    AreGenerated parts
    → options.ignore_case ≡ false
    → ReturnsFirstInMiddle answer options parts matcher.inner
    →
    EachResultIs answer matcher (IsFirstOf options parts)

-- If the matcher has an engine, the engine accepted the text of its regular expression, and `Holds`
-- is true of the engine's value.
abbrev pub AcceptedText : {E : Type 0} → (Holds : E → Type 0) → InnerView E → Type 0
AcceptedText Holds (RegExp (Ok engine)) = Holds engine
AcceptedText Holds (RegExp (Err error)) = ⊥
AcceptedText Holds inner = Unit {0}
