-- The text of parts, part by part.
use Rattle.std.proofs.Common.{◌≡◌, ◌+◌, ◌∙◌, ◌<◌, ℕ, true, List, [], ◌∷◌, ◌++◌, add-one, ap, append-nil, drop, get_or, inr, length, refl, sym, subst, take, Option, Some, None, Result, Ok, Err, Bool}
use Rattle.std.proofs.Math.Seq.{drop-cons}
use Rattle.std.proofs.lemmas.List.{map-append, take-append-drop, take_more}
use Rattle.std.specs.Prelude.{◌&&◌, ◌↔◌, IfOk, IfSome, IsTrue}
use Rattle.std.specs.{Borrow.Bor, Str.chars}
use Rattle.urlpattern_components.specs.declared.eight.ComponentName.{ComponentName}
use Rattle.urlpattern_generate.proofs.RequestedLemmas.{each_alone, each_joined, text_alone, texts_joined}
use Rattle.urlpattern_generate.specs.Requested.{IsRequested, IsRequestedBy}
use Rattle.urlpattern_generate.specs.WriteSettings.{WriteSettings}
use Rattle.urlpattern_generate.specs.WrittenTexts.{CannotWrite, IsWritten, RejectsPart}
use Rattle.urlpattern_generate.specs.declared.generate_error.GenerateError.{GenerateError}
use Rattle.urlpattern_generate.specs.Links.{IsCopyText, MayCapture, text_of_group, text_of_parts}
use Rattle.urlpattern_meaning.specs.PartMeaning.{Allows}
use Rattle.urlpattern_syntax.specs.declared.parser.Part.{Part}
use Rattle.urlpattern_syntax.specs.declared.parser.PartModifier.TheVariants as modifiers
use Rattle.urlpattern_syntax.specs.declared.parser.PartType.TheVariants.{FixedText, FullWildcard}
use Rattle.urlpattern_syntax.specs.Parts.{PartView, part_view, parts_view}
use Rattle.urlpattern_syntax.specs.RegexpText.{is_empty}
use Rattle.urlpattern_syntax.specs.Text.{lacks, line_feed}

-- ---- texts

pub nothing_written : (settings : WriteSettings) → IsWritten settings [] []
nothing_written settings = record { captures = []; are_requested = refl; may_capture = refl; is_text = refl }

pub written_joined : (settings : WriteSettings) (parts others : List PartView) (text more : List ℕ) → IsWritten settings parts text → IsWritten settings others more → IsWritten settings (parts ++ others) (text ++ more)
written_joined settings parts others text more written also = record {
  captures = written.captures ++ also.captures;
  are_requested = each_joined (IsRequested settings) parts others written.captures also.captures written.are_requested also.are_requested;
  may_capture = each_joined (MayCapture settings.options) parts others written.captures also.captures written.may_capture also.may_capture;
  is_text = ap (λ own. own ++ more) written.is_text ∙ ap (λ other. text_of_parts parts written.captures ++ other) also.is_text ∙ sym (texts_joined (IsRequested settings) parts others written.captures also.captures written.are_requested);
}

pub group_written : (settings : WriteSettings) (part : PartView) (capture : Option (List ℕ)) → ¬ (part.kind ≡ FixedText) → IsRequested settings part capture → MayCapture settings.options part capture →
    IsWritten settings (part ∷ []) (text_of_group part capture)
group_written settings part capture group asked may = record {
  captures = capture ∷ [];
  are_requested = each_alone (IsRequested settings) part capture group asked;
  may_capture = each_alone (MayCapture settings.options) part capture group may;
  is_text = sym (text_alone part capture group);
}

-- ---- parts up to an index

parts_more : (list : List Part) (i : ℕ) (part : Part) → i < length list → part ≡ get_or list i part → parts_view (take (i + 1) list) ≡ parts_view (take i list) ++ part_view part ∷ []
parts_more list i part within is =
    ap parts_view (take_more list i part within) ∙ map-append part_view (take i list) (get_or list i part ∷ []) ∙ ap (λ p. parts_view (take i list) ++ part_view p ∷ []) (sym is)

parts_cut : (list : List Part) (i : ℕ) (part : Part) → i < length list → part ≡ get_or list i part → parts_view list ≡ parts_view (take i list) ++ part_view part ∷ parts_view (drop (i + 1) list)
parts_cut list i part within is =
    ap parts_view (sym (take-append-drop i list)) ∙ map-append part_view (take i list) (drop i list)
    ∙ ap (λ rest. parts_view (take i list) ++ parts_view rest) (drop-cons list i part within ∙ ap (λ n. get_or list i part ∷ drop n list) (sym (add-one i)))
    ∙ ap (λ p. parts_view (take i list) ++ part_view p ∷ parts_view (drop (i + 1) list)) (sym is)

-- The text with one more part.
pub written_more : (settings : WriteSettings) (list : List Part) (i : ℕ) (part : Part) (text more now : List ℕ) → i < length list → part ≡ get_or list i part → IsWritten settings (parts_view (take i list)) text →
    IsWritten settings (part_view part ∷ []) more → now ≡ text ++ more → IsWritten settings (parts_view (take (i + 1) list)) now
written_more settings list i part text more now within is written also e =
    subst (IsWritten settings (parts_view (take (i + 1) list))) (sym e)
    (subst (λ parts. IsWritten settings parts (text ++ more)) (sym (parts_more list i part within is)) (written_joined settings (parts_view (take i list)) (part_view part ∷ []) text more written also))

-- A part cannot be written, after those before it were.
pub refused_there : (component : ComponentName) (settings : WriteSettings) (list : List Part) (i : ℕ) (part : Part) (text : List ℕ) (error : GenerateError) → i < length list → part ≡ get_or list i part →
    IsWritten settings (parts_view (take i list)) text → RejectsPart component settings (part_view part) error → CannotWrite component settings (parts_view list) error
refused_there component settings list i part text error within is written refused =
    inr (parts_view (take i list), parts_view (drop (i + 1) list), part_view part, text, parts_cut list i part within is, written, refused)

-- ---- a single part whose text can be borrowed

pub lent_written : (settings : WriteSettings) (part : PartView) (text : List ℕ) → part.kind ≡ FullWildcard → part.modifier ≡ modifiers.None → (is_empty part.prefix && is_empty part.suffix) ≡ true → IsRequested settings part (Some text) →
    IsTrue (lacks line_feed text) → IsWritten settings (part ∷ []) text
lent_written settings part text e f bare asked line =
    let none = both_nothing part.prefix part.suffix bare in
    let may : MayCapture settings.options part (Some text) =
    inr (0, subst (λ m. Allows m 1) (sym f) refl, subst (λ k. IsCopyText settings.options k text) (sym e) line) in
    subst (IsWritten settings (part ∷ [])) (ap (λ front. front ++ text ++ part.suffix) none.0 ∙ ap (λ back. text ++ back) none.1 ∙ append-nil text)
    (group_written settings part (Some text) (λ fixed. cc) asked may)
  where
    both_nothing : (prefix suffix : List ℕ) → (is_empty prefix && is_empty suffix) ≡ true → (prefix ≡ []) × (suffix ≡ [])
    both_nothing [] [] bare = (refl, refl)
    both_nothing [] (c ∷ suffix) bare = cc bare
    both_nothing (c ∷ prefix) suffix bare = cc bare

-- The text of a single wildcard whose capture can be borrowed.
pub lent_if : (settings : WriteSettings) (part : PartView) (found : Option (Bor (List ℕ))) → part.kind ≡ FullWildcard → part.modifier ≡ modifiers.None → (is_empty part.prefix && is_empty part.suffix) ≡ true →
    IfSome found (λ text. IsRequested settings part (Some (chars text.now))) → IfSome found (λ text. IsTrue (lacks line_feed (chars text.now))) → IfSome found (λ text. IsWritten settings (part ∷ []) (chars text.now))
lent_if settings part None e f bare asked line = tt
lent_if settings part (Some text) e f bare asked line = lent_written settings part (chars text.now) e f bare asked line

-- ---- the requested capture of a group with a value

pub asked_form : {Fault : Type 0} (settings : WriteSettings) (part : PartView) (given value : List ℕ) (r : Result Bool Fault) → settings.given part.name ≡ Some given →
    IfOk r (λ has. IsTrue has ↔ (settings.canonical given ≡ Ok value)) → IfOk r (λ is. IsTrue is ↔ IsRequested settings part (Some value))
asked_form settings part given value (Err fault) e tested = tt
asked_form settings part given value (Ok is) e tested =
    subst (λ text. IsTrue is ↔ IsRequestedBy settings.canonical text part (Some value)) (sym e) (
      (λ yes. (value, tested.0 yes, refl)),
      (λ (other, form, same). tested.1 (form ∙ ap (λ t. Ok t) (some_same other value same))),
    )
  where
    some_same : (other value : List ℕ) → Some value ≡ Some other → other ≡ value
    some_same other value same = cc same
