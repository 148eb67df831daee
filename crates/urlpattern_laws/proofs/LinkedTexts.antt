-- Links of a pattern, by the captures that their groups are to have.
use Rattle.std.proofs.Common.{◌≡◌, ◌∙◌, ℕ, List, ap, refl, sym, subst, Option, Some, None, Ok}
use Rattle.std.specs.Prelude.{MatchOption}
use Rattle.url.specs.Parser.{Parsed, parse_url}
use Rattle.url.specs.Parts.{Parts}
use Rattle.urlpattern_compile.specs.PatternViews.{eight_view}
use Rattle.urlpattern_components.proofs.EightLemmas.{same_values}
use Rattle.urlpattern_components.specs.Eight.{Texts, at}
use Rattle.urlpattern_generate.specs.WriteSettings.{GivenView, WriteSettings}
use Rattle.urlpattern_generate.specs.WrittenTexts.{IsWritten}
use Rattle.urlpattern_init.specs.Inheritance.{texts_of_url}
use Rattle.urlpattern_laws.proofs.RequestedCaptures.{asked_one, given_again}
use Rattle.urlpattern_laws.specs.LinkLaws.{IsWritableFromCaptures, LinksAreOne, LinksDiffer, LinksOfCapturesAreTheTexts}
use Rattle.urlpattern_generate.proofs.LinkLaws.{meant_captured, text_same}
use Rattle.urlpattern_generate.specs.Links.{text_of_parts}
use Rattle.urlpattern_meaning.specs.Matching.{Returns, MatcherView}
use Rattle.urlpattern_meaning.specs.PartMeaning.{Captures}
use Rattle.urlpattern_pattern.proofs.LinkedLemmas.{answered_once}
use Rattle.urlpattern_pattern.specs.ComponentTexts.{settings_in, parts_in}
use Rattle.urlpattern_pattern.specs.LinkedUrls.{IsLink, IsLinkOf}
use Rattle.urlpattern_pattern.specs.UrlPatterns.{UrlPattern}
use Rattle.urlpattern_compare.specs.declared.pattern_parts.PatternParts.{PatternParts}
use Rattle.urlpattern_syntax.specs.Parts.{PartView}
use Rattle.urlpattern_generate.specs.UrlsOfTexts.{line_of}

-- ---- a single text

-- Parts have a single text with these groups.
text_once : (settings : WriteSettings) (parts : List PartView) (text other : List ℕ) → IsWritten settings parts text → IsWritten settings parts other → text ≡ other
text_once settings parts text other is also =
    is.is_text ∙ ap (text_of_parts parts) (asked_one settings parts is.captures also.captures is.are_requested also.are_requested) ∙ sym also.is_text

-- The text with the captures of a match is the text that was matched.
text_again : {E : Type 0} (answer : E → List ℕ → Option Captures) (matcher : MatcherView E) (settings : WriteSettings) (parts : List PartView) (text other : List ℕ) (captures : Captures) → IsWritten settings parts text →
    Returns answer matcher other (Some captures) → IsWritableFromCaptures answer matcher settings parts other captures → text ≡ other
text_again answer matcher settings parts text other captures is answered it =
    let means = it.means answered in
    let asked = given_again settings settings.options parts captures it.are_given (meant_captured settings.options parts other captures means) it.are_canonical in
    is.is_text ∙ ap (text_of_parts parts) (asked_one settings parts is.captures captures is.are_requested asked) ∙ text_same settings.options parts other captures it.plain means

-- ---- links

-- A pattern with a link has parts.
record HasLink {E : Type 0} (answer : E → List ℕ → Option Captures) (pattern : UrlPattern E) (groups : List GivenView) (url : Parts) : Type 0 where
  parts : PatternParts
  has : pattern.parts ≡ Some parts
  link : IsLinkOf answer (eight_view pattern.components) parts groups url

has_link : {E : Type 0} (answer : E → List ℕ → Option Captures) (pattern : UrlPattern E) (groups : List GivenView) (url : Parts) → IsLink answer pattern groups url → HasLink answer pattern groups url
has_link {E} answer pattern groups url is = by pattern.parts refl is
  where
    by : (of : Option PatternParts) → pattern.parts ≡ of → MatchOption of ⊥ (λ parts. IsLinkOf answer (eight_view pattern.components) parts groups url) → HasLink answer pattern groups url
    by None e never = absurd never
    by (Some parts) e link = record { parts = parts; has = e; link = link }

-- A link is a link of the pattern's parts.
link_of : {E : Type 0} (answer : E → List ℕ → Option Captures) (pattern : UrlPattern E) (parts : PatternParts) (groups : List GivenView) (url : Parts) → pattern.parts ≡ Some parts → IsLink answer pattern groups url →
    IsLinkOf answer (eight_view pattern.components) parts groups url
link_of answer pattern parts groups url has is = subst (λ (of : Option PatternParts). MatchOption of ⊥ (λ own. IsLinkOf answer (eight_view pattern.components) own groups url)) has is

pub links_differ : {E : Type 0} (answer : E → List ℕ → Option Captures) → LinksDiffer answer
links_differ answer pattern groups others url other component captures different is also ask asks differ = λ same.
    let one = has_link answer pattern groups url is in
    let two = link_of answer pattern one.parts others other one.has also in
    let (found, found_asked, found_answers) = one.link.are_confirmed component in
    let (more, more_asked, more_answers) = two.are_confirmed component in
    let matcher = (eight_view pattern.components component).matcher in
    let parts = parts_in one.parts component in
    let matched = answered_once answer matcher (at (texts_of_url url) component) found more found_answers (subst (λ t. Returns answer matcher t (Some more)) (sym same) more_answers) in
    differ (asked_one (settings_in one.parts groups component) parts captures found (ask one.parts one.has) found_asked ∙ matched
    ∙ asked_one (settings_in one.parts others component) parts more different more_asked (asks one.parts one.has))

pub links_one : {E : Type 0} (answer : E → List ℕ → Option Captures) → LinksAreOne answer
links_one answer pattern groups url other is also =
    let one = has_link answer pattern groups url is in
    let two = link_of answer pattern one.parts groups other one.has also in
    let same =
    same_values (texts_of_url url) (texts_of_url other)
    (λ component. text_once (settings_in one.parts groups component) (parts_in one.parts component) (at (texts_of_url url) component) (at (texts_of_url other) component) (one.link.are_written component) (two.are_written component)) in
    let read : Parsed Parts = Ok url in
    let both : read ≡ Ok other = sym one.link.is_read ∙ ap (λ (texts : Texts). parse_url None (line_of texts)) same ∙ two.is_read in
    cc both

pub links_of_captures : {E : Type 0} (answer : E → List ℕ → Option Captures) → LinksOfCapturesAreTheTexts answer
links_of_captures answer pattern groups url texts captures is answered back =
    let one = has_link answer pattern groups url is in
    same_values (texts_of_url url) texts
    (λ component. text_again answer (eight_view pattern.components component).matcher (settings_in one.parts groups component) (parts_in one.parts component) (at (texts_of_url url) component) (at texts component)
    (captures component) (one.link.are_written component) (answered component) (back component one.parts one.has))
