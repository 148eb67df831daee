-- When a pattern matches an input, and the groups of a match. The URLPattern Standard, section
-- "Matching", at "match".
use Rattle.std.specs.Prelude.{◌≡◌, ◌≤◌, ◌⊎◌, ℕ, Bool, List, MatchBool, MatchOption, zip, Option, Some, None, Ok}
use Rattle.urlpattern_components.specs.declared.eight.ComponentName.{ComponentName}
use Rattle.urlpattern_init.specs.Inheritance.{texts_of_url}
use Rattle.urlpattern_init.specs.declared.init.UrlPatternMatchInput.{UrlPatternMatchInput}
use Rattle.urlpattern_init.specs.declared.init.UrlPatternMatchInput.TheVariants.{Init, Url as UrlInput}
use Rattle.urlpattern_matches.specs.MatchInput.{IsNoInput, input_bytes, input_texts}
use Rattle.urlpattern_matches.specs.ResultViews.{IsResultOf, ResultView}
use Rattle.urlpattern_pattern.specs.Patterns.{PatternView}
use Rattle.urlpattern_canonical.specs.Canonical.{long_text}
use Rattle.urlpattern_meaning.specs.Matching.{Returns, CallsEngine, IsMatched}
use Rattle.urlpattern_meaning.specs.PartMeaning.{Captures}
use Rattle.urlpattern_components.specs.Eight.{Texts, at}

-- ---- matches

-- Each component's matcher returns `captures` for its text. `answer` is what an engine's value
-- returns for a text.
abbrev pub AreResults : {E : Type 0} → (answer : E → List ℕ → Option Captures) → PatternView E
    → Texts → (captures : ComponentName → Captures) → Type 0
AreResults answer pattern texts captures =
    (component : ComponentName)
    → Returns answer (pattern component).matcher (at texts component)
    (Some (captures component))

-- Some component's matcher does not match its text.
abbrev pub DoesNotMatch : {E : Type 0} → (answer : E → List ℕ → Option Captures) → PatternView E
    → Texts → Type 0
DoesNotMatch answer pattern texts =
    (component : ComponentName)
    × Returns answer (pattern component).matcher (at texts component) None

-- The pattern matches `texts` with the result `result`: each matcher returns captures for its text,
-- and the result has the texts and, by the names of the groups, these captures.
pub record IsMatchOf {E : Type 0} (answer : E → List ℕ → Option Captures) (pattern : PatternView E)
    (texts : Texts) (result : ComponentName → ResultView) : Type 0 where
  pub captures : ComponentName → Captures
  pub are_answers : AreResults answer pattern texts captures
  pub are_results : (component : ComponentName)
      → IsResultOf (pattern component).group_name_list (captures component) (at texts component)
      (result component)

-- `groups` are the groups of each component, in order: each name with the capture that the
-- component's matcher returns.
abbrev pub AreGroupsInOrder : {E : Type 0} → (answer : E → List ℕ → Option Captures) → PatternView E
    → Texts → (groups : ComponentName → List (List ℕ × Option (List ℕ))) → Type 0
AreGroupsInOrder answer pattern texts groups =
    (component : ComponentName)
    → (captures : Captures)
    × Returns answer (pattern component).matcher (at texts component) (Some captures)
    × (groups component ≡ zip (pattern component).group_name_list captures)

-- Each component's matcher matches its text.
abbrev pub AreMatched : {E : Type 0} → (answer : E → List ℕ → Option Captures) → PatternView E
    → Texts → Type 0
AreMatched answer pattern texts =
    (component : ComponentName) → IsMatched answer (pattern component).matcher (at texts component)

-- The pattern matches the texts of the input with the result `result`.
abbrev pub IsMatch : {E : Type 0} → (answer : E → List ℕ → Option Captures) → PatternView E
    → UrlPatternMatchInput → (result : ComponentName → ResultView) → Type 0
IsMatch answer pattern input result =
    (texts : Texts) × (input_texts input ≡ Ok texts) × IsMatchOf answer pattern texts result

-- The pattern matches the input, with some result.
abbrev pub HasMatch : {E : Type 0} → (answer : E → List ℕ → Option Captures) → PatternView E
    → UrlPatternMatchInput → Type 0
HasMatch answer pattern input =
    (texts : Texts) × (input_texts input ≡ Ok texts) × AreMatched answer pattern texts

-- The pattern does not match the input: the input has no texts, or one of them does not match.
abbrev pub HasNoMatch : {E : Type 0} → (answer : E → List ℕ → Option Captures) → PatternView E
    → UrlPatternMatchInput → Type 0
HasNoMatch answer pattern input =
    IsNoInput input
    ⊎ ((texts : Texts) × (input_texts input ≡ Ok texts) × DoesNotMatch answer pattern texts)

-- ---- results of calls

-- `matched` is what `test` returns: true if the pattern matches the input, and false if it does
-- not.
abbrev pub TestsInput : {E : Type 0} → (answer : E → List ℕ → Option Captures) → PatternView E
    → UrlPatternMatchInput → Bool → Type 0
TestsInput answer pattern input matched =
    MatchBool matched (HasMatch answer pattern input) (HasNoMatch answer pattern input)

-- `matched` is true if the pattern matches the eight texts, and false if it does not.
abbrev pub TestsTexts : {E : Type 0} → (answer : E → List ℕ → Option Captures) → PatternView E
    → Texts → Bool → Type 0
TestsTexts answer pattern texts matched =
    MatchBool matched (AreMatched answer pattern texts) (DoesNotMatch answer pattern texts)

-- `found` is what a call returns for the input: a result whose view is a match, or None if the
-- pattern does not match the input.
abbrev pub FindsInInput : {E R : Type 0} → (view : R → ComponentName → ResultView)
    → (answer : E → List ℕ → Option Captures) → PatternView E → UrlPatternMatchInput → Option R
    → Type 0
FindsInInput view answer pattern input found =
    MatchOption found (HasNoMatch answer pattern input) (λ result.
    IsMatch answer pattern input (view result))

-- `found` is what a call returns for eight texts: a result whose view is a match, or None if the
-- pattern does not match the texts.
abbrev pub FindsInTexts : {E R : Type 0} → (view : R → ComponentName → ResultView)
    → (answer : E → List ℕ → Option Captures) → PatternView E → Texts → Option R → Type 0
FindsInTexts view answer pattern texts found =
    MatchOption found (DoesNotMatch answer pattern texts) (λ result.
    IsMatchOf answer pattern texts (view result))

-- ---- when memory is allocated

-- An engine is called for the text of some component, and each component that calls no engine
-- matches its text.
pub record CallsAnEngine {E : Type 0} (answer : E → List ℕ → Option Captures)
    (pattern : PatternView E) (texts : Texts) : Type 0 where
  pub asked : (component : ComponentName)
      × CallsEngine (pattern component).matcher (at texts component)
  pub others :
      (component : ComponentName)
      → CallsEngine (pattern component).matcher (at texts component)
      ⊎ IsMatched answer (pattern component).matcher (at texts component)

-- A call that copies its match may allocate: an engine is called, or each component matches its
-- text, so that the match is copied.
abbrev pub CopiesMatch : {E : Type 0} → (answer : E → List ℕ → Option Captures) → PatternView E
    → Texts → Type 0
CopiesMatch answer pattern texts =
    CallsAnEngine answer pattern texts ⊎ AreMatched answer pattern texts

-- If the input is a URL, `Holds` is true of its texts. The texts of an init are allocated anyway.
abbrev pub IfUrl : (Holds : Texts → Type 0) → UrlPatternMatchInput → Type 0
IfUrl Holds (UrlInput url) = Holds (texts_of_url url)
IfUrl Holds (Init init) = Unit {0}

-- ---- long inputs

-- A text of the input that is passed to `url` may be too long for it: it has `long_text` bytes or
-- more.
abbrev pub IsLongInput : UrlPatternMatchInput → Type 0
IsLongInput input = long_text ≤ input_bytes input
