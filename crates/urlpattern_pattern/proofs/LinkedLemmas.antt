-- The URL of a pattern, by the texts of its components.
use Rattle.std.proofs.Common.{◌≡◌, ◌≢◌, ◌+◌, ◌∙◌, ◌<◌, ℕ, All, Bool, true, false, List, Option, Some, None, Result, Ok, Err, ap, bytes_eq, drop, get_or, inl, inr, length, refl, subst, sym, take}
use Rattle.std.proofs.lemmas.Bool.{false≢true}
use Rattle.std.specs.List.{list_any}
use Rattle.std.specs.Prelude.{IfErr, IfOk, MatchOption}
use Rattle.std.specs.declared.alloc.Global.{Global}
use Rattle.std.specs.declared.borrow.CowStr.{CowStr}
use Rattle.url.specs.Parts.{Parts}
use Rattle.urlpattern_matcher.proofs.MatcherResults.{matches-accepts}
use Rattle.urlpattern_matcher.specs.declared.component.Component.{Component}
use Rattle.urlpattern_matcher.specs.declared.regexp.RegExp.{Ghosts as Engine}
use Rattle.urlpattern_compile.specs.PatternViews.{PatternView, eight_view}
use Rattle.urlpattern_components.proofs.EightLemmas.{of_each}
use Rattle.urlpattern_components.specs.declared.eight.ComponentName.{ComponentName}
use Rattle.urlpattern_components.specs.declared.eight.ComponentName.TheVariants.{Protocol}
use Rattle.urlpattern_components.specs.Eight.{IsFirstError, Texts, at, components}
use Rattle.urlpattern_generate.specs.WriteSettings.{GivenView, settings_for}
use Rattle.urlpattern_generate.specs.WrittenTexts.{CannotWrite, IsWritten, cow_text}
use Rattle.urlpattern_generate.specs.declared.generate_error.GenerateError.{GenerateError}
use Rattle.urlpattern_generate.specs.declared.generate_error.GenerateError.TheVariants as generating
use Rattle.urlpattern_init.specs.Inheritance.{texts_of_url}
use Rattle.urlpattern_init.specs.declared.init.UrlPatternMatchInput.TheVariants as inputs
use Rattle.urlpattern_matches.specs.ResultViews.{group_of}
use Rattle.urlpattern_meaning.specs.Matching.{Accepts, Returns, InnerView, Literal, MatcherView, RegExp, SingleCapture}
use Rattle.urlpattern_meaning.specs.PartMeaning.{Captures}
use Rattle.urlpattern_pattern.proofs.GivenCaptures.{given_captured}
use Rattle.urlpattern_pattern.specs.ComponentTexts.{HasParts, settings_in, parts_in}
use Rattle.urlpattern_pattern.specs.LinkedUrls.{HasPartsText, AreWritten, IsCapturedBy, IsConfirmed, IsConfirmedBefore, IsLink, IsLinkOf, IsOther, RejectsLink, RejectsLinkOf, ReturnsGiven, DecidesConfirmed}
use Rattle.urlpattern_pattern.specs.Match.{HasMatch}
use Rattle.urlpattern_pattern.specs.UrlPatterns.{AreMadeOfParts, UrlPattern}
use Rattle.urlpattern_compare.specs.declared.pattern_parts.PatternParts.{PatternParts}
use Rattle.urlpattern_syntax.specs.ComponentParts.{kept_options, kept_parts}
use Rattle.urlpattern_syntax.specs.declared.parts.ComponentParts.{ComponentParts}
use Rattle.urlpattern_generate.specs.UrlsOfTexts.{IsReadOfTexts, RejectsTexts}
use Rattle.urlpattern_generate.specs.declared.no_link.NoLink.{NoLink}
use Rattle.urlpattern_generate.specs.declared.no_link.NoLink.TheVariants as links
use Rattle.urlpattern_generate.proofs.UrlLemmas.{cut_at}

-- ---- one result

accepted_once : {E : Type 0} (answer : E → List ℕ → Option Captures) (ignore_case : Bool) (inner : InnerView E) (text : List ℕ) (captures others : Captures) →
    Accepts answer ignore_case inner text captures → Accepts answer ignore_case inner text others → captures ≡ others
accepted_once answer ignore_case (Literal literal) text captures others is also = is.1 ∙ sym also.1
accepted_once answer ignore_case (SingleCapture filter allow_empty) text captures others is also = is.2 ∙ sym also.2
accepted_once answer ignore_case (RegExp (Ok engine)) text captures others is also = cc
accepted_once answer ignore_case (RegExp (Err error)) text captures others is also = absurd is

-- A matcher returns one list of captures for a text.
pub answered_once : {E : Type 0} (answer : E → List ℕ → Option Captures) (matcher : MatcherView E) (text : List ℕ) (captures others : Captures) →
    Returns answer matcher text (Some captures) → Returns answer matcher text (Some others) → captures ≡ others
answered_once answer matcher text captures others (middle, cut, accepts) also =
    accepted_once answer matcher.ignore_case matcher.inner middle captures others accepts ((matches-accepts answer matcher text middle others cut).0 also)

-- ---- texts

module _ {E : Type 0} (answer : E → List ℕ → Option Captures) where
  module _ (pattern : PatternView E) (parts : PatternParts) (groups : List GivenView) (texts : Texts) where
    pub confirmed_if : (is : Bool) (name : ComponentName) → is ≡ true → DecidesConfirmed is answer pattern parts groups texts name → IsConfirmed answer pattern parts groups texts name
    confirmed_if true name e told = told
    confirmed_if false name e told = absurd (false≢true e)

    pub other_if : (is : Bool) (name : ComponentName) → is ≡ false → DecidesConfirmed is answer pattern parts groups texts name → IsOther answer pattern parts groups texts name
    other_if true name e told = absurd (false≢true (sym e))
    other_if false name e told = told

    pub all_confirmed : All (IsConfirmed answer pattern parts groups texts) components → IsConfirmedBefore answer pattern parts groups texts None
    all_confirmed all component = of_each (IsConfirmed answer pattern parts groups texts) all component

    pub first_other : (i : ℕ) → i < length components → All (IsConfirmed answer pattern parts groups texts) (take i components) → IsOther answer pattern parts groups texts (get_or components i Protocol) →
        IsConfirmedBefore answer pattern parts groups texts (Some (get_or components i Protocol))
    first_other i within all other = (take i components, drop (i + 1) components, cut_at i within, all, other)

  -- ---- links

  module _ (pattern : UrlPattern E) (parts : PatternParts) (groups : List GivenView) (has : pattern.parts ≡ Some parts) where
    abbrev view : PatternView E
    view = eight_view pattern.components

    with_parts : (Holds : PatternParts → Type 0) → Holds parts → HasParts pattern Holds
    with_parts Holds h = subst (λ (of : Option PatternParts). MatchOption of ⊥ Holds) (sym has) h

    link_of : (texts : Texts) (url : Parts) → AreWritten parts groups texts → texts_of_url url ≡ texts → IsReadOfTexts texts url → IsConfirmedBefore answer view parts groups texts None → IsLinkOf answer view parts groups url
    link_of texts url written same read confirmed = record {
      are_written = subst (λ (of : Texts). AreWritten parts groups of) (sym same) written;
      are_confirmed = subst (λ (of : Texts). IsConfirmedBefore answer view parts groups of None) (sym same) confirmed;
      is_read = subst (λ (of : Texts). IsReadOfTexts of url) (sym same) read;
    }

    pub linked : (texts : Texts) (url : Parts) → AreWritten parts groups texts → texts_of_url url ≡ texts → IsReadOfTexts texts url → IsConfirmedBefore answer view parts groups texts None → IsLink answer pattern groups url
    linked texts url written same read confirmed = with_parts (λ own. IsLinkOf answer view own groups url) (link_of texts url written same read confirmed)

    -- A link is matched.
    pub link_matched : (texts : Texts) (url : Parts) → texts_of_url url ≡ texts → IsConfirmedBefore answer view parts groups texts None → HasMatch answer view (inputs.Url url)
    link_matched texts url same confirmed =
        let own : IsConfirmedBefore answer view parts groups (texts_of_url url) None = subst (λ (of : Texts). IsConfirmedBefore answer view parts groups of None) (sym same) confirmed in
        (texts_of_url url, refl, λ component. let found = own component in (found.0, found.2))

    -- A match of the link captures the given texts.
    captured_in : (url : Parts) (component : ComponentName) (name value : List ℕ) (captures : Captures) → Returns answer (view component).matcher (at (texts_of_url url) component) (Some captures) →
        group_of (view component).group_name_list captures name ≡ Some (Some value) → IsCapturedBy answer view url component name value
    captured_in url component name value captures answers group result (texts, is, found) =
        let same : texts ≡ texts_of_url url = cc is in
        let own : Returns answer (view component).matcher (at (texts_of_url url) component) (Some (found.captures component)) =
        subst (λ (of : Texts). Returns answer (view component).matcher (at of component) (Some (found.captures component))) same (found.are_answers component) in
        let one = answered_once answer (view component).matcher (at (texts_of_url url) component) captures (found.captures component) answers own in
        (found.are_results component).has_groups name ∙ ap (λ of. group_of (view component).group_name_list of name) (sym one) ∙ group

    pub link_returns : (engine : Engine E) (texts : Texts) (url : Parts) → AreMadeOfParts engine parts view → texts_of_url url ≡ texts → IsConfirmedBefore answer view parts groups texts None → ReturnsGiven answer pattern groups url
    link_returns engine texts url made same confirmed component name text given has_name =
        let own : IsConfirmedBefore answer view parts groups (texts_of_url url) None = subst (λ (of : Texts). IsConfirmedBefore answer view parts groups of None) (sym same) confirmed in
        let (captures, are, answers) = own component in
        let names = (made component).is_component.has_names in
        let got = given_captured (settings_in parts groups component) name text given (parts_in parts component) captures are (subst (λ list. list_any (bytes_eq name) list ≡ true) names has_name) in
        with_parts (λ of. (value : List ℕ) × ((settings_in of groups component).canonical text ≡ Ok value) × IsCapturedBy answer view url component name value)
        (got.0, got.1, captured_in url component name got.0 captures answers (ap (λ list. group_of list captures name) names ∙ got.2))

    -- ---- errors

    refused_of : (error : NoLink) → RejectsLinkOf answer view parts groups error → RejectsLink answer pattern groups error
    refused_of error refused =
        subst (λ (of : Option PatternParts). MatchOption of (error ≡ links.Component generating.NoParts) (λ own. RejectsLinkOf answer view own groups error)) (sym has) refused

    pub refused_memory : RejectsLink answer pattern groups links.OutOfMemory
    refused_memory = refused_of links.OutOfMemory tt

    never_written : (of : ComponentName) → IsFirstError (HasPartsText parts groups) (generating.ReadOtherwise of) → ⊥
    never_written of (before, after, name, cut, all, inl never) = cc never
    never_written of (before, after, name, cut, all, inr (front, back, part, text, split, written, never)) = never

    pub refused_text : (error : GenerateError) → error ≢ generating.OutOfMemory → IsFirstError (HasPartsText parts groups) error → RejectsLink answer pattern groups (links.Component error)
    refused_text (generating.Missing of name) other first = refused_of (links.Component (generating.Missing of name)) first
    refused_text (generating.NotCaptured of name) other first = refused_of (links.Component (generating.NotCaptured of name)) first
    refused_text (generating.ReadOtherwise of) other first = absurd (never_written of first)
    refused_text generating.NoParts other first = refused_of (links.Component generating.NoParts) first
    refused_text generating.OutOfMemory other first = absurd (other refl)

    pub refused_url : (texts : Texts) (error : NoLink) → AreWritten parts groups texts → RejectsTexts texts error → RejectsLink answer pattern groups error
    refused_url texts (links.Component error) written h = absurd h
    refused_url texts (links.Url reason) written h = refused_of (links.Url reason) (texts, written, h)
    refused_url texts (links.OtherText component) written h = refused_of (links.OtherText component) (texts, written, h)
    refused_url texts links.OutOfMemory written h = refused_memory

    pub refused_reading : (texts : Texts) (url : Parts) (component : ComponentName) → AreWritten parts groups texts → texts_of_url url ≡ texts → IsReadOfTexts texts url →
        IsConfirmedBefore answer view parts groups texts (Some component) → RejectsLink answer pattern groups (links.Component (generating.ReadOtherwise component))
    refused_reading texts url component written same read before =
        refused_of (links.Component (generating.ReadOtherwise component)) (
          url,
          subst (λ (of : Texts). AreWritten parts groups of) (sym same) written,
          subst (λ (of : Texts). IsReadOfTexts of url) (sym same) read,
          subst (λ (of : Texts). IsConfirmedBefore answer view parts groups of (Some component)) (sym same) before,
        )

-- The result of writing a component: a text, or why there is none.
pub part_answered : (parts : PatternParts) (groups : List GivenView) (name : ComponentName) (kept : ComponentParts) (result : Result (CowStr Global) GenerateError) → kept ≡ at parts.components name →
    IfOk result (λ text. IsWritten (settings_for name (kept_options kept) (kept_parts kept) groups) (kept_parts kept) (cow_text text)) →
    IfErr result (CannotWrite name (settings_for name (kept_options kept) (kept_parts kept) groups) (kept_parts kept)) → HasPartsText parts groups name result
part_answered parts groups name kept (Ok text) e is other = subst (λ (of : ComponentParts). IsWritten (settings_for name (kept_options of) (kept_parts of) groups) (kept_parts of) (cow_text text)) e is
part_answered parts groups name kept (Err error) e is other = subst (λ (of : ComponentParts). CannotWrite name (settings_for name (kept_options of) (kept_parts of) groups) (kept_parts of) error) e other
