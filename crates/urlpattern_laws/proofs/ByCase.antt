-- What components return, and what a pattern finds, by their pattern texts, where case is kept in
-- some components and ignored in others.
use Rattle.std.proofs.Common.{◌≡◌, ◌∙◌, ◌⊎◌, ℕ, Bool, true, false, List, ap, inl, inr, refl, subst, sym, Option, Result, Some, None, true≢false}
use Rattle.std.proofs.lemmas.Option.{same_Some}
use Rattle.std.specs.Prelude.{⊤, IsAscii, Ok, Err}
use Rattle.urlpattern_compile.specs.Compiled.{IsComponentCompiled, ParseSettings, ReadsAs, settings_of}
use Rattle.urlpattern_components.specs.Eight.{Texts, at}
use Rattle.urlpattern_components.specs.declared.eight.ComponentName.{ComponentName}
use Rattle.urlpattern_expressions.specs.PartWays.{parts_first_way_by}
use Rattle.urlpattern_expressions.specs.SimpleExpressions.{AreOfAscii, AreSimpleBy}
use Rattle.urlpattern_init.proofs.UrlTexts.{ascii_of_urls, texts_of_urls}
use Rattle.urlpattern_init.specs.UrlTexts.{IsLine}
use Rattle.urlpattern_laws.proofs.CustomByCase.{custom_first}
use Rattle.urlpattern_laws.proofs.FirstOfTrees.{first_of_tree}
use Rattle.urlpattern_laws.proofs.InputTexts.{match_of_texts, refusal_of_texts}
use Rattle.urlpattern_laws.proofs.MatchersFirst.{engine_first, fast_first}
use Rattle.urlpattern_laws.proofs.MatchersTaken.{made_between}
use Rattle.urlpattern_laws.proofs.OutcomesOne.{answers_by}
use Rattle.urlpattern_laws.proofs.SimpleMatchers.{fast}
use Rattle.urlpattern_laws.specs.ByCase.{FindingsAreByCase, FindingsByCaseAreOne, FirstsAreReturnedByCase, FirstsAreReturnedWithoutEngine, HoldsNoEngine, InputFindingsAreByCase, IsFirstResultByCase, IsFirstWayByCase, IsFoundByCase, IsLineByCase, IsMeantByCase, TextsOfUrlsAreLinesByCase}
use Rattle.urlpattern_laws.specs.LawsOfWays.{ValuesReturnFirstByFlags}
use Rattle.urlpattern_matcher.proofs.FirstMatchers.{flags_agree}
use Rattle.urlpattern_matcher.specs.Components.{ComponentView, IsEngineOf, engine_flags}
use Rattle.urlpattern_matcher.specs.FirstWays.{ValuesReturnByFlags}
use Rattle.urlpattern_matcher.specs.declared.regexp.RegExp.{Ghosts as Engine}
use Rattle.urlpattern_matches.specs.ResultViews.{IsResultOf, IsSameResult, ResultView, group_of}
use Rattle.urlpattern_meaning.proofs.FirstResults.{middle_plain}
use Rattle.urlpattern_meaning.proofs.MatcherMeaning.{ends_of}
use Rattle.urlpattern_meaning.proofs.MatchingLaws.{IsFast}
use Rattle.urlpattern_meaning.proofs.OneMeaning.{is_tree_of}
use Rattle.urlpattern_meaning.proofs.PartTrees.{tree_of}
use Rattle.urlpattern_meaning.specs.FirstResults.{AcceptedText}
use Rattle.urlpattern_meaning.specs.Matching.{InnerView, IsMadeOf, Literal, MatcherView, RegExp, Returns, SingleCapture, end_text}
use Rattle.urlpattern_meaning.specs.PartMeaning.{AreGenerated, Captures}
use Rattle.urlpattern_meaning.specs.Ways.{first_way_by}
use Rattle.urlpattern_pattern.proofs.ByTextLemmas.{answer_first}
use Rattle.urlpattern_pattern.proofs.MeaningLemmas.{read_once}
use Rattle.urlpattern_pattern.specs.ByText.{IsFirstWay, MakesFirstWays, ReadsNoCustom}
use Rattle.urlpattern_syntax.specs.Errors.{ErrorView}
use Rattle.urlpattern_syntax.specs.Options.{OptionsView}
use Rattle.urlpattern_syntax.specs.{Parts.PartView, RegexpText.group_names, RegexpText.regexp_text}

-- ---- matchers

-- A matcher of parts without a custom one returns their first way, if the values of the engine
-- return results by their flags.
module _ {E : Type 0} (engine : Engine E) (by_flags : ValuesReturnByFlags engine) (options : OptionsView) (parts : List PartView) (matcher : MatcherView E)
    (made : IsMadeOf (IsEngineOf engine false (engine_flags options)) options parts matcher) (generated : AreGenerated parts) (text : List ℕ) (line : IsLine text) (result : Option Captures) (answers : Returns engine.answer matcher text result) where
  abbrev IsEngine : List ℕ → Result E ErrorView → Type 0
  IsEngine = IsEngineOf engine false (engine_flags options)

  abbrev IsFirst : Type 0
  IsFirst = result ≡ parts_first_way_by options.ignore_case options parts text

  value_first : (value : E) → engine.IsMade value (regexp_text options made.middle) (engine_flags options) → (t : List ℕ) → engine.answer value t ≡ parts_first_way_by options.ignore_case options made.middle t
  value_first value is t =
      let plain = middle_plain parts made.front made.middle made.back made.are_stripped generated in
      let tree = tree_of options made.middle in
      by_flags options (engine_flags options) made.middle tree value plain (is_tree_of options made.middle plain) is t
      ∙ ap (λ (b : Bool). first_way_by b tree t) (flags_agree options)
      ∙ sym (first_of_tree options.ignore_case options made.middle tree t plain (is_tree_of options made.middle plain))

  pub generated_first : AcceptedText (λ value. ⊤) matcher.inner → IsFirst
  generated_first took = by matcher.inner refl took
    where
      without : IsFast matcher.inner → IsFirst
      without is = fast_first engine.answer IsEngine options text result parts matcher made line.no_line_feed is answers

      by : (inner : InnerView E) → matcher.inner ≡ inner → AcceptedText (λ value. ⊤) inner → IsFirst
      by (Literal literal) e took = without (subst (λ (i : InnerView E). IsFast i) (sym e) tt)
      by (SingleCapture filter allow_empty) e took = without (subst (λ (i : InnerView E). IsFast i) (sym e) tt)
      by (RegExp (Err error)) e took = absurd took
      by (RegExp (Ok value)) e took =
          engine_first engine.answer IsEngine options text result parts made.front made.middle made.back matcher value made.are_stripped
          (ends_of IsEngine options (end_text made.front) made.middle (end_text made.back) matcher (Ok value) made.is_made e) e
          (λ t good. value_first value (made_between IsEngine options (end_text made.front) made.middle (end_text made.back) matcher (Ok value) made.is_made e) t) line.characters answers

-- ---- components

no_engine_fast : {E : Type 0} (inner : InnerView E) → HoldsNoEngine inner → IsFast inner
no_engine_fast (Literal literal) none = none
no_engine_fast (SingleCapture filter allow_empty) none = none
no_engine_fast (RegExp engine) none = absurd none

pub first_without_engine : {E : Type 0} (engine : Engine E) → FirstsAreReturnedWithoutEngine engine
first_without_engine engine settings compiled text result is_compiled none line answers =
    let (parts, reads, is_component) = is_compiled.0 in
    let options = settings.options in
    let made = is_component.has_matcher in
    let is = no_engine_fast compiled.matcher.inner none in
    record {
      parts = parts;
      reads = reads;
      is_first = fast_first engine.answer (IsEngineOf engine false (engine_flags options)) options text result parts compiled.matcher made line.no_line_feed is answers;
      is_captured = λ kept.
          (fast engine.answer (IsEngineOf engine false (engine_flags options)) options parts compiled.matcher made kept is text result line.no_line_feed line.characters answers).is_captured;
    }

module _ {E : Type 0} (engine : Engine E) (by_flags : ValuesReturnByFlags engine) (by_parts : ValuesReturnFirstByFlags engine) where
  -- Where case is ignored, a matcher of parts that have a meaning returns their first way.
  ignored_first : (settings : ParseSettings) (parts : List PartView) (matcher : MatcherView E) (text : List ℕ) (result : Option Captures) → settings.options.ignore_case ≡ true → ReadsAs settings parts
      → IsMadeOf (IsEngineOf engine false (engine_flags settings.options)) settings.options parts matcher → AcceptedText (λ value. ⊤) matcher.inner → AreSimpleBy settings.options.ignore_case parts
      → (settings.options.ignore_case ≡ false) ⊎ (AreGenerated parts ⊎ AreOfAscii settings.options parts) → IsLine text → (settings.options.ignore_case ≡ false) ⊎ (ReadsNoCustom settings ⊎ IsAscii text)
      → Returns engine.answer matcher text result → result ≡ parts_first_way_by settings.options.ignore_case settings.options parts text
  ignored_first settings parts matcher text result ignored reads made took simple (inl kept) line low answers = absurd (true≢false (sym ignored ∙ kept))
  ignored_first settings parts matcher text result ignored reads made took simple (inr (inl generated)) line low answers =
      generated_first engine by_flags settings.options parts matcher made generated text line result answers took
  ignored_first settings parts matcher text result ignored reads made took simple (inr (inr plain)) line (inl kept) answers = absurd (true≢false (sym ignored ∙ kept))
  ignored_first settings parts matcher text result ignored reads made took simple (inr (inr plain)) line (inr (inl none)) answers =
      generated_first engine by_flags settings.options parts matcher made (none parts reads) text line result answers took
  ignored_first settings parts matcher text result ignored reads made took simple (inr (inr plain)) line (inr (inr ascii)) answers =
      custom_first engine by_parts settings.options parts matcher made simple plain text line ascii result answers took

module _ {E : Type 0} (engine : Engine E) (firsts : MakesFirstWays engine) (by_flags : ValuesReturnByFlags engine) (by_parts : ValuesReturnFirstByFlags engine) where
  pub first_by_case : FirstsAreReturnedByCase engine
  first_by_case settings compiled text result is_compiled meant line answers = by settings.options.ignore_case refl
    where
      by : (ignores : Bool) → settings.options.ignore_case ≡ ignores → IsFirstWayByCase settings text result
      by false kept =
          let simple = λ (parts : List PartView) (reads : ReadsAs settings parts). subst (λ (b : Bool). AreSimpleBy b parts) kept (meant parts reads).simple in
          let first : IsFirstWay settings text result =
          answer_first engine.answer settings compiled (answers_by engine settings compiled firsts (record { simple = simple; case_kept = kept }) is_compiled) text line.0 result answers in
          record {
            parts = first.parts;
            reads = first.reads;
            is_first = first.is_first.is_first ∙ ap (λ (b : Bool). parts_first_way_by b settings.options first.parts text) (sym kept);
            is_captured = λ same. first.is_first.is_captured;
          }
      by true ignored =
          let (parts, reads, is_component) = is_compiled.0 in
          let have = meant parts reads in
          record {
            parts = parts;
            reads = reads;
            is_first =
                ignored_first engine by_flags by_parts settings parts compiled.matcher text result ignored reads is_component.has_matcher is_compiled.1.of_matcher have.simple have.by_case
                line.0 line.1 answers;
            is_captured = λ kept. absurd (true≢false (sym ignored ∙ kept));
          }

-- ---- what is found

module _ {E : Type 0} (engine : Engine E) (firsts : FirstsAreReturnedByCase engine) where
  component_result : (settings : ParseSettings) (compiled : ComponentView E) (text : List ℕ) (captures : Captures) (result : ResultView) → IsComponentCompiled engine settings compiled → IsMeantByCase settings → IsLineByCase settings text →
      Returns engine.answer compiled.matcher text (Some captures) → IsResultOf compiled.group_name_list captures text result → IsFirstResultByCase settings text result
  component_result settings compiled text captures result is_compiled meant line answers is_result =
      let (parts, reads, is_component) = is_compiled.0 in
      let way = firsts settings compiled text (Some captures) is_compiled meant line answers in
      let names : compiled.group_name_list ≡ group_names way.parts = is_component.has_names ∙ ap (λ (ps : List PartView). group_names ps) (read_once settings parts way.parts reads way.reads) in
      record { captures = captures; way = way; is_result = subst (λ (list : List (List ℕ)). IsResultOf list captures text result) names is_result }

  pub found_by_case : FindingsAreByCase engine
  found_by_case asked values pattern texts (Some result) compiled match = λ component meant line.
      component_result (settings_of asked values compiled.hierarchical component) (pattern component) (at texts component) (match.captures component) (result component) (compiled.are_compiled component) meant line
      (match.are_answers component) (match.are_results component)
  found_by_case asked values pattern texts None compiled (component, refused) = λ all. (
    component,
    firsts (settings_of asked values compiled.hierarchical component) (pattern component) (at texts component) None (compiled.are_compiled component) (all component).0 (all component).1 refused,
  )

  pub input_found_by_case : InputFindingsAreByCase engine
  input_found_by_case asked values pattern input (Some result) texts compiled are_texts short match =
      found_by_case asked values pattern texts (Some result) compiled (match_of_texts engine.answer pattern input texts result are_texts match)
  input_found_by_case asked values pattern input None texts compiled are_texts short refused =
      found_by_case asked values pattern texts None compiled (refusal_of_texts engine.answer pattern input texts are_texts short refused)

-- ---- texts of URLs

pub texts_by_case : TextsOfUrlsAreLinesByCase
texts_by_case settings url valid component = (texts_of_urls url valid component, inr (inr (ascii_of_urls url valid component)))

-- ---- one result

way_one : (settings : ParseSettings) (text : List ℕ) (captures others : Option Captures) → IsFirstWayByCase settings text captures → IsFirstWayByCase settings text others → captures ≡ others
way_one settings text captures others first last =
    first.is_first
    ∙ ap (λ (ps : List PartView). parts_first_way_by settings.options.ignore_case settings.options ps text) (read_once settings first.parts last.parts first.reads last.reads) ∙ sym last.is_first

result_one : (settings : ParseSettings) (text : List ℕ) (result other : ResultView) → IsFirstResultByCase settings text result → IsFirstResultByCase settings text other → IsSameResult result other
result_one settings text result other first last =
    let parts : first.way.parts ≡ last.way.parts = read_once settings first.way.parts last.way.parts first.way.reads last.way.reads in
    let captures : first.captures ≡ last.captures = same_Some _ _ (way_one settings text (Some first.captures) (Some last.captures) first.way last.way) in (
      first.is_result.has_input ∙ sym last.is_result.has_input,
      λ name.
          first.is_result.has_groups name ∙ ap (λ (ps : List PartView). group_of (group_names ps) first.captures name) parts
          ∙ ap (λ (c : Captures). group_of (group_names last.way.parts) c name) captures ∙ sym (last.is_result.has_groups name),
    )

differ : (settings : ComponentName → ParseSettings) (texts : Texts) (result : ComponentName → ResultView) → ((component : ComponentName) → IsMeantByCase (settings component) × IsLineByCase (settings component) (at texts component)) →
    IsFoundByCase settings texts None → IsFoundByCase settings texts (Some result) → ⊥
differ settings texts result all none found =
    let (component, way) = none all in
    let first = found component (all component).0 (all component).1 in
    let same : None ≡ Some first.captures = way_one (settings component) (at texts component) None (Some first.captures) way first.way in
    cc same

pub finding_by_case_one : FindingsByCaseAreOne
finding_by_case_one settings texts None None all found other = tt
finding_by_case_one settings texts (Some result) (Some other) all found also = λ component.
    let (meant, line) = all component in
    result_one (settings component) (at texts component) (result component) (other component) (found component meant line) (also component meant line)
finding_by_case_one settings texts None (Some other) all found also = differ settings texts other all found also
finding_by_case_one settings texts (Some result) None all found also = differ settings texts result all also found
