-- The link of a pattern for values that are percent-encoded.
use Rattle.std.proofs.Common.{◌≡◌, ◌∙◌, ℕ, ◌+◌, ◌<◌, ◌||◌, ◌++◌, All, Bool, true, false, Ok, List, [], ◌∷◌, Option, Some, None, add-one, ap, bytes_eq, drop, get_or, inr, length, map, option_map, refl, subst, sym, take}
use Rattle.std.proofs.Math.Seq.{drop-cons}
use Rattle.std.proofs.lemmas.Bool.{false≢true}
use Rattle.std.proofs.lemmas.List.{take-append-drop}
use Rattle.std.proofs.lemmas.List.Elements.{All-head, All-tail}
use Rattle.std.proofs.lemmas.Slice.Eq.{bytes_eq-Decides}
use Rattle.std.specs.List.{list_any}
use Rattle.std.specs.Prelude.{IfSome, IfOk, MatchOption, Result, String, if◌then◌else◌}
use Rattle.std.specs.Borrow.{Bor}
use Rattle.std.specs.declared.alloc.{AllocError.AllocError, Global.Global}
use Rattle.url.specs.Parts.{Parts}
use Rattle.urlpattern_compare.specs.declared.pattern_parts.PatternParts.{PatternParts}
use Rattle.urlpattern_compile.specs.PatternViews.{PatternView, eight_view}
use Rattle.urlpattern_components.proofs.EightLemmas.{of_each}
use Rattle.urlpattern_components.specs.Eight.{at, components}
use Rattle.urlpattern_components.specs.declared.eight.ComponentName.{ComponentName}
use Rattle.urlpattern_components.specs.declared.eight.ComponentName.TheVariants.{Protocol}
use Rattle.urlpattern_generate.specs.EncodedGroups.{IsChanged, IsDecodedBack, KeepsValue, encoded_groups}
use Rattle.urlpattern_generate.specs.WriteSettings.{GivenView, is_given_for, settings_for, text_given}
use Rattle.urlpattern_generate.specs.declared.generate_error.GenerateError.TheVariants as generating
use Rattle.urlpattern_generate.specs.declared.no_link.NoLink.{NoLink}
use Rattle.urlpattern_generate.specs.declared.no_link.NoLink.TheVariants as links
use Rattle.urlpattern_matcher.specs.declared.component.Component.{Component}
use Rattle.urlpattern_meaning.specs.PartMeaning.{Captures}
use Rattle.urlpattern_pattern.specs.ComponentTexts.{settings_in}
use Rattle.urlpattern_pattern.specs.EncodedLinks.{IsChangedIn, IsFirstChanged, RejectsEncoded, ReturnsDecoded}
use Rattle.urlpattern_pattern.specs.LinkedUrls.{IsCapturedBy, IsLink, IsLinkOf, ReturnsGiven}
use Rattle.urlpattern_pattern.specs.UrlPatterns.{UrlPattern}
use Rattle.urlpattern_syntax.specs.ComponentParts.{kept_options, kept_parts}
use Rattle.urlpattern_syntax.specs.Text.{option_text, text_of}
use Rattle.urlpattern_syntax.specs.declared.parts.ComponentParts.{ComponentParts}
use Rattle.urlpattern_values.specs.EncodedValues.{DecodesTo, decoded_bytes, encoded}

-- ---- the value of a name

given_if : (is : Bool) (value : List ℕ) (others : Option (List ℕ)) → (if is then Some (encoded value) else option_map encoded others) ≡ option_map encoded (if is then Some value else others)
given_if true value others = refl
given_if false value others = refl

-- The encoded value of a name is its value, encoded.
pub given_encoded : (groups : List GivenView) (component : ComponentName) (name : List ℕ) → text_given (encoded_groups groups) component name ≡ option_map encoded (text_given groups component name)
given_encoded [] component name = refl
given_encoded (given ∷ groups) component name =
    ap (λ others. if is_given_for component name given then Some (encoded given.text) else others) (given_encoded groups component name)
    ∙ given_if (is_given_for component name given) given.text (text_given groups component name)

found_if : (is : Bool) (own value : List ℕ) (others : Option (List ℕ)) → DecodesTo (encoded own) own → (others ≡ Some value → DecodesTo (encoded value) value) → (if is then Some own else others) ≡ Some value →
    DecodesTo (encoded value) value
found_if true own value others back later found = let same : own ≡ value = cc found in subst (λ of. DecodesTo (encoded of) of) same back
found_if false own value others back later found = later found

-- The value of a name is decoded back.
pub given_back : (groups : List GivenView) → All IsDecodedBack groups → (component : ComponentName) (name value : List ℕ) → text_given groups component name ≡ Some value → DecodesTo (encoded value) value
given_back [] all component name value found = cc found
given_back (given ∷ groups) all component name value found =
    found_if (is_given_for component name given) given.text value (text_given groups component name) (All-head IsDecodedBack given groups all)
    (given_back groups (All-tail IsDecodedBack given groups all) component name value) found

-- ---- the captures of the link

-- A property of each of the names is one of a name among them.
one_of : (Is : List ℕ → Type 0) (name : List ℕ) (names : List (List ℕ)) → All Is names → list_any (bytes_eq name) names ≡ true → Is name
one_of Is name [] all has = absurd (false≢true has)
one_of Is name (other ∷ names) all has =
    by (bytes_eq name other) (list_any (bytes_eq name) names) refl (one_of Is name names (All-tail Is other names all)) has
  where
    by : (is others : Bool) → bytes_eq name other ≡ is → (others ≡ true → Is name) → (is || others) ≡ true → Is name
    by true others e later has = subst Is (sym ((bytes_eq-Decides name other).0 e)) (All-head Is other names all)
    by false others e later has = later has

module _ {E : Type 0} (answer : E → List ℕ → Option Captures) (pattern : UrlPattern E) (groups : List GivenView) (url : Parts) where
  abbrev view : PatternView E
  view = eight_view pattern.components

  -- The captured text of a group decodes to the value.
  abbrev CapturesValue : ComponentName → (name value : List ℕ) → Type 0
  CapturesValue component name value = (text : List ℕ) × DecodesTo text value × IsCapturedBy answer view url component name text

  captured_with : (component : ComponentName) (name value : List ℕ) → DecodesTo (encoded value) value → text_given (encoded_groups groups) component name ≡ Some (encoded value) →
      list_any (bytes_eq name) (view component).group_name_list ≡ true → (parts : Option PatternParts) → IfSome parts (λ own. IsFirstChanged view own (encoded_groups groups) None) →
      MatchOption parts ⊥ (λ own. (form : List ℕ) × ((settings_in own (encoded_groups groups) component).canonical (encoded value) ≡ Ok form) × IsCapturedBy answer view url component name form) →
      CapturesValue component name value
  captured_with component name value back given has None kept captured = absurd captured
  captured_with component name value back given has (Some parts) kept (form, is, captured) =
      let (own, own_is, alike) = one_of (KeepsValue (settings_in parts (encoded_groups groups) component)) name (view component).group_name_list (kept component) has (encoded value) given in
      let same : form ≡ own = cc (is, own_is) in
      (form, ap decoded_bytes same ∙ alike ∙ back, captured)

  pub decoded_returns : All IsDecodedBack groups → IfSome pattern.parts (λ parts. IsFirstChanged view parts (encoded_groups groups) None) → ReturnsGiven answer pattern (encoded_groups groups) url →
      ReturnsDecoded answer pattern groups url
  decoded_returns backs kept returns component name value found has =
      let given = given_encoded groups component name ∙ ap (option_map encoded) found in
      captured_with component name value (given_back groups backs component name value found) given has pattern.parts kept (returns component name (encoded value) given has)

-- ---- values that are changed

-- The groups of a component are asked by its kept parts and its list of names.
pub changed_at : {E : Type 0} (pattern : UrlPattern E) (parts : PatternParts) (groups : List GivenView) (component : ComponentName) (kept : ComponentParts) (own : Component E) (names : List (String Global))
    (result : Result (Option (Bor (List ℕ))) AllocError) → kept ≡ at parts.components component → own ≡ at pattern.components component → names ≡ own.group_name_list.items →
    IfOk result (λ found. IsChanged (settings_for component (kept_options kept) (kept_parts kept) groups) (map (λ name. text_of name) names) (option_text found)) →
    IfOk result (λ found. IsChangedIn (eight_view pattern.components) parts groups component (option_text found))
changed_at pattern parts groups component kept own names result is_kept is_own is_names asked =
    let listed : map (λ name. text_of name) names ≡ (eight_view pattern.components component).group_name_list =
    ap (map (λ name. text_of name)) is_names ∙ ap (λ of. map (λ name. text_of name) of.group_name_list.items) is_own in
    subst (λ of. IfOk result (λ found. IsChanged (settings_for component (kept_options of) (kept_parts of) groups) (eight_view pattern.components component).group_name_list (option_text found))) is_kept
    (subst (λ list. IfOk result (λ found. IsChanged (settings_for component (kept_options kept) (kept_parts kept) groups) list (option_text found))) listed asked)

-- None of the components has a value that is changed.
pub none_changed : {E : Type 0} (pattern : PatternView E) (parts : PatternParts) (groups : List GivenView) → All (λ component. IsChangedIn pattern parts groups component None) components → IsFirstChanged pattern parts groups None
none_changed pattern parts groups all component = of_each (λ component. IsChangedIn pattern parts groups component None) all component

-- The component at an index has the first value that is changed.
pub first_changed : {E : Type 0} (pattern : PatternView E) (parts : PatternParts) (groups : List GivenView) (names : List ComponentName) → names ≡ components → (i : ℕ) → i < length names →
    All (λ component. IsChangedIn pattern parts groups component None) (take i names) → (name : List ℕ) → IsChangedIn pattern parts groups (get_or names i Protocol) (Some name) →
    IsFirstChanged pattern parts groups (Some (get_or names i Protocol, name))
first_changed pattern parts groups names are i within kept name changed = (
  take i names,
  drop (i + 1) names,
  sym are ∙ sym (take-append-drop i names) ∙ ap (λ rest. take i names ++ rest) (drop-cons names i Protocol within ∙ ap (λ n. get_or names i Protocol ∷ drop n names) (sym (add-one i))),
  kept,
  changed,
)

-- ---- errors

module _ {E : Type 0} (answer : E → List ℕ → Option Captures) (pattern : UrlPattern E) (groups : List GivenView) where
  -- A link whose value is changed is rejected.
  pub changed_refused : (url : Parts) (component : ComponentName) (name : List ℕ) (text : String Global) → text_of text ≡ name → IsLink answer pattern groups url →
      IfSome pattern.parts (λ parts. IsFirstChanged (eight_view pattern.components) parts groups (Some (component, name))) → RejectsEncoded answer pattern groups (links.Component (generating.NotCaptured component text))
  changed_refused url component name text same link changed = inr (by pattern.parts link changed)
    where
      by : (parts : Option PatternParts) → MatchOption parts ⊥ (λ own. IsLinkOf answer (eight_view pattern.components) own groups url) →
          IfSome parts (λ own. IsFirstChanged (eight_view pattern.components) own groups (Some (component, name))) →
          MatchOption parts ⊥ (λ own. IsFirstChanged (eight_view pattern.components) own groups (Some (component, text_of text)))
      by None has found = absurd has
      by (Some own) has found = subst (λ of. IsFirstChanged (eight_view pattern.components) own groups (Some (component, of))) (sym same) found

  pub memory_refused : (error : NoLink) → error ≡ links.OutOfMemory → RejectsEncoded answer pattern groups error
  memory_refused error is = subst (RejectsEncoded answer pattern groups) (sym is) (inr tt)
