-- Patterns that match by their texts match what the parts that they keep mean.
use Rattle.std.proofs.Common.{◌≡◌, ◌∙◌, ℕ, Bool, true, false, List, ap, refl, subst, sym}
use Rattle.std.specs.Prelude.{◌↔◌, IsTrue, Option}
use Rattle.urlpattern_matcher.specs.Components.{ComponentView, IsEngineOf, engine_flags}
use Rattle.urlpattern_matcher.specs.declared.regexp.RegExp.{Ghosts as Engine}
use Rattle.urlpattern_compare.specs.MeantTexts.{MeansText}
use Rattle.urlpattern_compile.specs.Compiled.{IsPathKind, ParseSettings, ReadsAs, settings_of}
use Rattle.urlpattern_components.specs.declared.eight.ComponentName.TheVariants.{Protocol}
use Rattle.urlpattern_components.specs.Eight.{Values, at}
use Rattle.urlpattern_init.specs.UrlTexts.{IsLine}
use Rattle.urlpattern_meaning.specs.Matching.{IsMatched}
use Rattle.urlpattern_meaning.specs.PartMeaning.{Captures}
use Rattle.urlpattern_pattern.proofs.MeaningLemmas.{read_once}
use Rattle.urlpattern_pattern.specs.ByText.{ReturnsByText, HasMeaning}
use Rattle.urlpattern_expressions.specs.SimpleExpressions.{AreSimple, HaveMeaningByCase}
use Rattle.urlpattern_pattern.specs.KeptMeanings.{KeptMeaningsAreOfTexts}
use Rattle.urlpattern_pattern.specs.KeptParts.{AreReadBySettings}
use Rattle.urlpattern_pattern.specs.Patterns.{pattern_view}
use Rattle.urlpattern_expressions.specs.PartCaptures.{IsCapturedByParts}
use Rattle.urlpattern_laws.proofs.MatchingLemmas.{captured_matches}
use Rattle.urlpattern_laws.specs.ByCase.{KeptMeaningsByCaseAreOfTexts}
use Rattle.urlpattern_laws.specs.PartReadings.{KeptPartsMean}
use Rattle.urlpattern_laws.proofs.FoldedMeaning.{made_case}
use Rattle.urlpattern_compare.specs.Comparing.{IsKnown}
use Rattle.urlpattern_syntax.specs.ComponentParts.{kept_options, kept_parts}
use Rattle.urlpattern_syntax.specs.declared.parts.ComponentParts.{ComponentParts}
use Rattle.urlpattern_syntax.specs.Options.{OptionsView}
use Rattle.urlpattern_syntax.specs.Parts.{PartView}

-- A component that matches by its text matches what the parts of the text mean.
matched_means : {E : Type 0} (answer : E → List ℕ → Option Captures) (settings : ParseSettings) (compiled : ComponentView E) (parts : List PartView) (text : List ℕ) →
    ReturnsByText answer settings compiled → ReadsAs settings parts → IsLine text → settings.options.ignore_case ≡ false → IsMatched answer compiled.matcher text ↔ MeansText settings.options parts text
matched_means answer settings compiled parts text by reads line case =
    let same : by.parts ≡ parts = read_once settings by.parts parts by.reads reads in
    captured_matches answer compiled.matcher settings.options parts text case
    (λ found answers. subst (λ (ps : List PartView). IsCapturedByParts settings.options ps text found) same (by.answers text found line.no_line_feed line.characters answers).is_captured)

-- Parts of known meaning are of a manner with a meaning.
has_meaning : (settings : ParseSettings) (component : ComponentParts) → AreReadBySettings settings component → IsKnown component → settings.options.ignore_case ≡ false → HasMeaning settings
has_meaning settings component are known case = record {
  simple = λ others reads. subst (λ (ps : List PartView). AreSimple ps) (read_once settings (kept_parts component) others are.reads reads) known.parts.simple;
  case_kept = case;
}

same_truth : (P : Type 0) (a b : Bool) → IsTrue a ↔ P → IsTrue b ↔ P → a ≡ b
same_truth P true true h k = refl
same_truth P true false h k = sym (k.1 (h.0 refl))
same_truth P false true h k = h.1 (k.0 refl)
same_truth P false false h k = refl

pub kept_parts_mean : {E : Type 0} (engine : Engine E) → KeptPartsMean engine
kept_parts_mean engine init asked pattern by kept name keeps known text line =
    let component = at kept.parts.components name in
    let one : kept.values ≡ by.values = cc (sym kept.are_values ∙ by.are_values) in
    let path : kept.hierarchical ≡ by.hierarchical =
    same_truth _ kept.hierarchical by.hierarchical (subst (λ (v : Values). IsPathKind engine.answer v (pattern_view pattern Protocol).matcher kept.hierarchical) one kept.path_kind) by.by_protocol in
    let settings = settings_of asked by.values by.hierarchical name in
    let are : AreReadBySettings settings component =
    subst (λ (h : Bool). AreReadBySettings (settings_of asked by.values h name) component) path
    (subst (λ (v : Values). AreReadBySettings (settings_of asked v kept.hierarchical name) component) one (kept.are_read name)) in
    let made = (kept.are_made name).is_component.has_matcher in
    let case = sym (ap (λ (o : OptionsView). o.ignore_case) are.options_are)
    ∙ sym (made_case (IsEngineOf engine false (engine_flags (kept_options component))) (kept_options component) (kept_parts component) (pattern_view pattern name).matcher made) ∙ keeps in
    subst (λ (o : OptionsView). IsMatched engine.answer (pattern_view pattern name).matcher text ↔ MeansText o (kept_parts component) text) (sym are.options_are)
    (matched_means engine.answer settings (pattern_view pattern name) (kept_parts component) text (by.answers name (has_meaning settings component are known case)) are.reads line case)

-- The parts that a compiled pattern keeps have a meaning exactly if its pattern text has one.
pub kept_meaning : {E : Type 0} (engine : Engine E) → KeptMeaningsAreOfTexts engine
kept_meaning engine init asked pattern kept name =
    let component = at kept.parts.components name in
    let settings = settings_of asked kept.values kept.hierarchical name in
    let are = kept.are_read name in
    let case : (kept_options component).ignore_case ≡ settings.options.ignore_case = ap (λ (o : OptionsView). o.ignore_case) are.options_are in
    rw (kept.has_parts) (
      λ have. record {
        simple = λ others reads. subst (λ (ps : List PartView). AreSimple ps) (read_once settings (kept_parts component) others are.reads reads) have.simple;
        case_kept = sym case ∙ have.case_kept;
      },
      λ has. record { simple = has.simple (kept_parts component) are.reads; case_kept = case ∙ has.case_kept },
    )

-- The kept parts have a meaning by case exactly if the pattern text has one.
pub kept_meaning_by_case : {E : Type 0} (engine : Engine E) → KeptMeaningsByCaseAreOfTexts engine
kept_meaning_by_case engine init asked pattern kept name =
    let component = at kept.parts.components name in
    let settings = settings_of asked kept.values kept.hierarchical name in
    let are = kept.are_read name in
    rw (kept.has_parts) (
      λ have parts reads.
          subst (λ (o : OptionsView). HaveMeaningByCase o parts) are.options_are
          (subst (λ (ps : List PartView). HaveMeaningByCase (kept_options component) ps) (read_once settings (kept_parts component) parts are.reads reads) have),
      λ meant. subst (λ (o : OptionsView). HaveMeaningByCase o (kept_parts component)) (sym are.options_are) (meant (kept_parts component) are.reads),
    )
