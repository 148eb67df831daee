-- The fixed texts of patterns, and the index of a list of patterns.
use Rattle.std.specs.Prelude.{◌≡◌, ℕ, List, length, slice_get, Option, Some}
use Rattle.urlpattern_index.specs.FixedTexts.{AddressTexts, FixedTexts, IsText}
use Rattle.urlpattern_index.specs.Keys.{hashes_of}
use Rattle.urlpattern_index.specs.Listed.{Finds, Listing}
use Rattle.urlpattern_index.specs.Paths.{FitsPath}
use Rattle.urlpattern_components.specs.declared.eight.ComponentName.TheVariants.{Hostname, Pathname, Protocol}
use Rattle.urlpattern_components.specs.Eight.{Texts}
use Rattle.urlpattern_meaning.specs.Matching.{IsMatched}
use Rattle.urlpattern_meaning.specs.PartMeaning.{Captures}
use Rattle.urlpattern_paths.specs.PathsAlone.{IsReadBy}
use Rattle.urlpattern_paths.specs.declared.template.PathTemplate.{PathTemplate}
use Rattle.urlpattern_pattern.specs.Match.{DoesNotMatch}
use Rattle.urlpattern_pattern.specs.Patterns.{PatternView, pattern_view}
use Rattle.urlpattern_pattern.specs.UrlPatterns.{UrlPattern}

-- `fixed` is true of all that the pattern matches: each protocol and each hostname is the fixed
-- one, where `fixed` has one, and each pathname fits what `fixed` says of it.
pub record AreFixed {E : Type 0} (answer : E → List ℕ → Option Captures) (pattern : PatternView E)
    (fixed : FixedTexts) : Type 0 where
  pub protocol : (text : List ℕ) → IsMatched answer (pattern Protocol).matcher text
      → IsText fixed.protocol text
  pub hostname : (text : List ℕ) → IsMatched answer (pattern Hostname).matcher text
      → IsText fixed.hostname text
  pub pathname : (text : List ℕ) → IsMatched answer (pattern Pathname).matcher text
      → FitsPath fixed.pathname text

-- The protocol, the hostname and the pathname, by which an index finds patterns.
abbrev pub address_of : Texts → AddressTexts
address_of texts = record {
  protocol = texts.protocol;
  hostname = texts.hostname;
  pathname = texts.pathname;
}

-- The index has a key for each pattern, and a pattern's number is its place in the list. A pattern
-- whose number the index does not find for the hashes of eight texts does not match the texts.
pub record AreIndexed {E : Type 0} (answer : E → List ℕ → Option Captures)
    (patterns : List (UrlPattern E)) (index : Listing) : Type 0 where
  pub as_many : length index.keys ≡ length patterns
  pub refuses : (number : ℕ) (pattern : UrlPattern E) → slice_get patterns number ≡ Some pattern →
      (texts : Texts) → ¬ Finds index (hashes_of (address_of texts)) number
      → DoesNotMatch answer (pattern_view pattern) texts

-- The pattern at an index, if there is one, is read by the template.
abbrev pub IsTemplateAt : {E : Type 0} → (answer : E → List ℕ → Option Captures)
    → List (UrlPattern E) → (index : ℕ) → PathTemplate → Type 0
IsTemplateAt {E} answer patterns index template =
    (pattern : UrlPattern E) → slice_get patterns index ≡ Some pattern
    → IsReadBy answer (pattern_view pattern) template

-- There is a template or none for each pattern, and a pattern that has one is read by it.
pub record AreTemplates {E : Type 0} (answer : E → List ℕ → Option Captures)
    (patterns : List (UrlPattern E)) (templates : List (Option PathTemplate)) : Type 0 where
  pub as_many : length templates ≡ length patterns
  pub templates_at : (index : ℕ) (template : PathTemplate)
      → slice_get templates index ≡ Some (Some template)
      → IsTemplateAt answer patterns index template
