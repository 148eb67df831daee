-- Engines whose values and matchers return first ways. A *way* is one way in which an expression
-- matches a text, with its captures; the first is the one that a backtracking engine finds first.
-- The *tree* of an expression is what it is parsed to in the dialect of generated expressions; a
-- custom one may have none.
use Rattle.std.specs.Prelude.{◌≡◌, ⊤, ℕ, false, List, Option, IsOk, IsTrue}
use Rattle.std.specs.Str.{all_scalars}
use Rattle.urlpattern_meaning.specs.FirstResults.{IsFirstOf, ReturnsFirst, AcceptedText}
use Rattle.urlpattern_meaning.specs.Matching.{Agrees, Returns, EachResultIs, MatcherView, InnerView, IsMadeOf}
use Rattle.urlpattern_matcher.specs.Components.{ComponentView, IsComponentOf, IsEngineOf, ignores_case}
use Rattle.urlpattern_matcher.specs.declared.regexp.RegExp.{Ghosts as Engine}
use Rattle.urlpattern_printing.specs.Generated.{AreGenerated}
use Rattle.urlpattern_meaning.specs.Dialect.{Follows, IsTreeOf, Items}
use Rattle.urlpattern_meaning.specs.PartMeaning.{Captures}
use Rattle.urlpattern_meaning.specs.Ways.{first_way_by}
use Rattle.urlpattern_syntax.specs.{Options.OptionsView, Parts.PartView, RegexpText.regexp_text}
use Rattle.urlpattern_syntax.specs.Text.{lacks, line_feed}

-- ---- values

-- The type of a predicate that holds of flags with which the values of an engine do not ignore
-- case.
abbrev pub Keeping : Type 1
Keeping = (flags : List ℕ) → Type 0

-- The flags have no `i`, so case counts.
abbrev pub KeepsCase : Keeping
KeepsCase flags = ignores_case flags ≡ false

-- Each value that `engine` made with flags that keep case returns, for texts of characters, the
-- captures of the first way of the tree of its expression, if the expression has a tree.
abbrev pub ValuesReturnFirst : {E : Type 0} → Engine E → Keeping → Type 0
ValuesReturnFirst {E} engine Keeps =
    (regexp flags : List ℕ) (value : E) → Keeps flags → engine.IsMade value regexp flags
    → ReturnsFirst regexp (engine.answer value)

-- Each value that `engine` made with flags that keep case returns what the tree of its expression
-- means, if the expression has a tree.
abbrev pub ValuesFollowTexts : {E : Type 0} → Engine E → Keeping → Type 0
ValuesFollowTexts {E} engine Keeps =
    (regexp flags : List ℕ) (tree : Items) (value : E) → IsTreeOf regexp tree → Keeps flags
    → engine.IsMade value regexp flags → Follows regexp (engine.answer value)

-- Each value that `engine` made of the regular expression of parts, none of them custom, with flags
-- that keep case, returns what the tree of the expression means.
abbrev pub ValuesFollowParts : {E : Type 0} → Engine E → Keeping → Type 0
ValuesFollowParts {E} engine Keeps =
    (options : OptionsView) (flags : List ℕ) (parts : List PartView) (value : E)
    → AreGenerated parts
    → Keeps flags →
    engine.IsMade value (regexp_text options parts) flags
    → Follows (regexp_text options parts) (engine.answer value)

-- Each value that `engine` made of the regular expression of parts, none of them custom, returns
-- the captures of the first way of the tree of the expression. The flags decide whether case is
-- ignored.
abbrev pub ValuesReturnByFlags : {E : Type 0} → Engine E → Type 0
ValuesReturnByFlags {E} engine =
    (options : OptionsView) (flags : List ℕ) (parts : List PartView) (tree : Items) (value : E)
    → AreGenerated parts
    → IsTreeOf (regexp_text options parts) tree →
    engine.IsMade value (regexp_text options parts) flags
    → (text : List ℕ) → engine.answer value text ≡ first_way_by (ignores_case flags) tree text

-- Values that two engines made of one expression, with flags that keep case, return equal captures
-- for each text of characters.
abbrev pub ValuesReturnAlike : {E F : Type 0} → Engine E → (other : Engine F) → Keeping → Type 0
ValuesReturnAlike {E} {F} engine other Keeps =
    (regexp flags : List ℕ) (value : E) (another : F) (text : List ℕ) → Keeps flags
    → engine.IsMade value regexp flags → other.IsMade another regexp flags →
    IsTrue (all_scalars text) → engine.answer value text ≡ other.answer another text

-- ---- matchers

-- The type of a predicate that says in which sense an engine accepted what a matcher needs: it
-- holds of options, of flags, and of what is between the prefix and the suffix of the matcher.
abbrev pub Acceptance : Type 0 → Type 1
Acceptance E = OptionsView → (flags : List ℕ) → InnerView E → Type 0

-- `engine` made `matcher` of `parts`, none of them custom, with case kept, and accepted, in the
-- sense of `Accepted`, what the matcher needs.
pub record IsAcceptedBy {E : Type 0} (engine : Engine E) (Accepted : Acceptance E)
    (options : OptionsView) (flags : List ℕ) (parts : List PartView) (matcher : MatcherView E) :
    Type 0 where
  pub is_made : IsMadeOf (IsEngineOf engine false flags) options parts matcher
  pub generated : AreGenerated parts
  pub case_kept : options.ignore_case ≡ false
  pub took : Accepted options flags matcher.inner

-- For each text of characters without line feed, the matcher returns the captures of the first way
-- of the tree of the regular expression of `parts`, with which the parts mean the text, or None if
-- they do not mean it.
abbrev pub ReturnsFirstWays : {E : Type 0} → (answer : E → List ℕ → Option Captures) → OptionsView
    → List PartView → MatcherView E → Type 0
ReturnsFirstWays answer options parts matcher =
    EachResultIs answer matcher (λ text result.
    IsFirstOf options parts text result × Agrees options parts text result)

-- The two matchers return equal results for each text of characters without line feed.
abbrev pub ReturnAlike : {E : Type 0} → (answer : E → List ℕ → Option Captures)
    → (matcher another : MatcherView E) → Type 0
ReturnAlike answer matcher another =
    (text : List ℕ) (result other : Option Captures) → IsTrue (lacks line_feed text)
    → IsTrue (all_scalars text) →
    Returns answer matcher text result → Returns answer another text other → result ≡ other

-- Each matcher that `engine` made of parts, none of them custom, with case kept, returns first
-- ways, if the engine accepted, in the sense of `Accepted`, what the matcher needs.
abbrev pub EachReturnsFirst : {E : Type 0} → (engine : Engine E)
    → (Accepted : Acceptance E) → Type 0
EachReturnsFirst {E} engine Accepted =
    (options : OptionsView) (flags : List ℕ) (parts : List PartView) (matcher : MatcherView E) →
    IsAcceptedBy engine Accepted options flags parts matcher
    → ReturnsFirstWays engine.answer options parts matcher

-- Two matchers that `engine` made of one list of parts, none of them custom, with case kept, return
-- equal results, if the engine accepted, in the sense of `Accepted`, what each matcher needs.
abbrev pub AllReturnAlike : {E : Type 0} → (engine : Engine E) → (Accepted : Acceptance E) → Type 0
AllReturnAlike {E} engine Accepted =
    (options : OptionsView) (flags : List ℕ) (parts : List PartView)
    (matcher another : MatcherView E)
    →
    IsAcceptedBy engine Accepted options flags parts matcher
    → IsAcceptedBy engine Accepted options flags parts another
    → ReturnAlike engine.answer matcher another

-- ---- expressions that are accepted

-- The engine accepts the regular expression of each matcher that needs one, if the matcher is made
-- of parts, none of them custom.
abbrev pub MatchersAcceptGenerated : {E : Type 0} → Engine E → Type 0
MatchersAcceptGenerated {E} engine =
    (options : OptionsView) (flags : List ℕ) (parts : List PartView) (matcher : MatcherView E) →
    IsMadeOf (IsEngineOf engine false flags) options parts matcher
    → AreGenerated parts
    → AcceptedText (λ value. ⊤) matcher.inner

-- For each component of parts, none of them custom, the engine accepts the component's regular
-- expression, and that of the component's matcher, if the matcher needs one.
abbrev pub ComponentsAcceptGenerated : {E : Type 0} → Engine E → Type 0
ComponentsAcceptGenerated {E} engine =
    (options : OptionsView) (parts : List PartView) (component : ComponentView E) →
    IsComponentOf engine options parts component → AreGenerated parts →
    IsOk component.regexp × AcceptedText (λ value. ⊤) component.matcher.inner
