-- Laws of the meaning of parts, of the trees of the dialect, and of matchers.
use Rattle.std.specs.Prelude.{◌≡◌, ◌↔◌, ◌⊎◌, ℕ, suc, false, List, [], ◌∷◌, ◌++◌, length, Contains, IsTrue, Option, Some}
use Rattle.std.specs.Str.{all_scalars}
use Rattle.urlpattern_meaning.specs.Dialect.{AreItems, Follows, IsTreeOf, Items, Means}
use Rattle.urlpattern_meaning.specs.FirstResults.{IsFirstOf}
use Rattle.urlpattern_meaning.specs.Laws.{AtMostOne, HasShapeOf}
use Rattle.urlpattern_meaning.specs.Matching.{Agrees, AgreesInMiddle, AreStripped, EachResultIs, MatcherView, end_text}
use Rattle.urlpattern_meaning.specs.PartMeaning.{Allows, AreCopies, AreGenerated, Captures, PartMeans, PartsMean, capture_of_no_copies}
use Rattle.urlpattern_meaning.specs.Ways.{Way, ways}
use Rattle.urlpattern_syntax.specs.{Options.OptionsView, Parts.PartView}
use Rattle.urlpattern_syntax.specs.RegexpText.{IsWildcard, group_names, regexp_text}

-- ---- lists of parts

-- If `front` and `back` are the plain fixed texts removed from the ends of `parts`, and `middle`
-- remains, then `parts` match exactly the texts that are the text of `front`, a text that `middle`
-- matches, and the text of `back`, with the same captures.
abbrev pub PlainEndsAreRemoved : Type 0
PlainEndsAreRemoved =
    (options : OptionsView) (parts : List PartView) (front : Option PartView)
    (middle : List PartView) (back : Option PartView)
    (text : List ℕ) (captures : Captures) → AreStripped parts front middle back →
    PartsMean options parts text captures
    ↔ ((inner : List ℕ) × (text ≡ end_text front ++ inner ++ end_text back)
    × PartsMean options middle inner captures)

-- Wherever parts match a text, there are as many captures as the parts have names of groups.
abbrev pub CapturesHaveNames : Type 0
CapturesHaveNames =
    (options : OptionsView) (parts : List PartView) (text : List ℕ) (captures : Captures) →
    PartsMean options parts text captures → length captures ≡ length (group_names parts)

-- ---- copies of a wildcard

-- Copies of a wildcard, at least one and as many as its modifier allows, match their text with a
-- single capture: the text without the first prefix and the last suffix.
abbrev pub CopiesAreOneCapture : Type 0
CopiesAreOneCapture = (options : OptionsView) (part : PartView) (n : ℕ) (text : List ℕ) →
    IsWildcard part.kind → Allows part.modifier (suc n) → AreCopies options part (suc n) text →
    (inner : List ℕ) × (text ≡ part.prefix ++ inner ++ part.suffix)
    × PartMeans options part text (Some inner ∷ [])

-- A wildcard whose modifier allows no copies matches the empty text with a single capture,
-- `capture_of_no_copies`.
abbrev pub NoCopiesAreOneCapture : Type 0
NoCopiesAreOneCapture = (options : OptionsView) (part : PartView) →
    IsWildcard part.kind
    → Allows part.modifier 0
    → PartMeans options part [] (capture_of_no_copies part ∷ [])

-- A wildcard that matches a text has a single capture: the text without the first prefix and the
-- last suffix, or else, of an empty text, `capture_of_no_copies`.
abbrev pub WildcardsCaptureNothingElse : Type 0
WildcardsCaptureNothingElse =
    (options : OptionsView) (part : PartView) (text : List ℕ) (captures : Captures) →
    IsWildcard part.kind → PartMeans options part text captures →
    ((text ≡ []) × (captures ≡ capture_of_no_copies part ∷ []))
    ⊎ ((inner : List ℕ) × (text ≡ part.prefix ++ inner ++ part.suffix)
    × (captures ≡ Some inner ∷ []))

-- ---- trees of the dialect

-- `Says` holds of each tree of the dialect, each text and each list of captures.
abbrev pub OfEachTree : (Says : Items → (text : List ℕ) → Captures → Type 0) → Type 0
OfEachTree Says =
    (tree : Items) → AreItems tree → (text : List ℕ) (captures : Captures) → Says tree text captures

-- The ways of a tree in a text are exactly the beginnings of the text that the tree matches, each
-- with captures by which it matches and the rest of the text.
abbrev pub WaysAreMeanings : Type 0
WaysAreMeanings = (tree : Items) → AreItems tree → (text : List ℕ) (way : Way) →
    Contains (ways tree text) way
    ↔ ((text ≡ way.taken ++ way.rest) × Means tree way.taken way.captures)

-- ---- the regular expression of parts

-- Where no part is custom, the tree of the regular expression of the parts matches exactly the
-- texts that the parts match, with the same captures.
abbrev pub TreesMeanTheParts : Type 0
TreesMeanTheParts =
    (options : OptionsView) (parts : List PartView) (tree : Items) (text : List ℕ)
    (captures : Captures)
    →
    AreGenerated parts → IsTreeOf (regexp_text options parts) tree →
    Means tree text captures ↔ PartsMean options parts text captures

-- Where no part is custom, `answer`, the results of an engine, follows the regular expression of
-- the parts exactly if it is what the parts mean, for each text of characters.
abbrev pub FollowingIsAgreeing : Type 0
FollowingIsAgreeing =
    (options : OptionsView) (parts : List PartView) (answer : List ℕ → Option Captures)
    → AreGenerated parts
    →
    Follows (regexp_text options parts) answer
    ↔ ((text : List ℕ) → IsTrue (all_scalars text) → Agrees options parts text (answer text))

-- At most one result is that of the first way in which the tree of the parts matches a text.
abbrev pub FirstWayIsOne : Type 0
FirstWayIsOne =
    (options : OptionsView) (parts : List PartView) (text : List ℕ)
    → AtMostOne (IsFirstOf options parts text)

-- Where no part is custom, the result of the first way in which the tree of the parts matches a
-- text is what the parts mean.
abbrev pub FirstWayIsMeant : Type 0
FirstWayIsMeant =
    (options : OptionsView) (parts : List PartView) (text : List ℕ) (result : Option Captures) →
    AreGenerated parts → IsFirstOf options parts text result → Agrees options parts text result

-- ---- matchers, of any type of engines' values

-- `Says` holds of each matcher, the options and parts that it is made from, and any function
-- `answer` from engines' values of the type `E` to their results.
abbrev pub OfEachMatcher : (E : Type 0)
    → (Says : (answer : E → List ℕ → Option Captures) → OptionsView → List PartView → MatcherView E
    → Type 0)
    → Type 0
OfEachMatcher E Says =
    (answer : E → List ℕ → Option Captures) (options : OptionsView) (parts : List PartView)
    (matcher : MatcherView E)
    →
    HasShapeOf options parts matcher → Says answer options parts matcher

-- If case is kept, and the matcher's engine, if it has one, accepted its regular expression and
-- returns what the parts that are left to it mean, then the matcher returns what the parts mean,
-- custom or not, for each text of characters without line feed.
abbrev pub ReturnsWhereEnginesAgree : {E : Type 0} → (answer : E → List ℕ → Option Captures)
    → OptionsView → List PartView → MatcherView E → Type 0
ReturnsWhereEnginesAgree answer options parts matcher =
    options.ignore_case ≡ false
    → AgreesInMiddle answer options parts matcher.inner
    → EachResultIs answer matcher (Agrees options parts)
